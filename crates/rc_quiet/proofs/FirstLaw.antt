-- The law of quiet quorums, of every quiet stretch that goes on from a run of a new world.
use Rattle.std.proofs.Common.{ℕ, List, []}
use Rattle.rc_ids.specs.Tables.{In}
use Rattle.rc_ids.specs.Cluster.{Layout, IsLayout}
use Rattle.rc_ids.specs.declared.names.Outcome.TheVariants.{Commit as Committed}
use Rattle.rc_report.specs.declared.line.Line.TheVariants.{Learned}
use Rattle.rc_runs.specs.World.{World, new_world}
use Rattle.rc_runs.specs.Refusals.{Happening, run, lines}
use Rattle.rc_claims.specs.Quiet.{IsQuiet, AreFew, AreDelivered, HasCommitted}
use Rattle.rc_quiet.proofs.QuietMoments.{Known as Premises}
use Rattle.rc_quiet.proofs.QuietLaw.{few_and_committed}
use Rattle.rc_quiet.proofs.EndNodes.{shard_at_moment}
use Rattle.rc_quiet.proofs.Stretches.{end_in}
use Rattle.rc_quiet.proofs.Unknown.{Unknown}
use Rattle.rc_quiet.proofs.FirstFacts.{first_facts}
use Rattle.rc_quiet.proofs.FirstUnknown.{first_unnamed}
use Rattle.rc_quiet.proofs.FirstParts.{quiet_is_new, shard_of_key, clients_fit, finished_is_listed}
use Rattle.rc_quiet.proofs.FirstReads.{not_newer}
use Rattle.rc_agreement.proofs.PlainLives.{First}

module _ (c : Layout) (lay : IsLayout c) (earlier hs : List Happening) (members : List ℕ) (t : ℕ) (quiet : IsQuiet (run (new_world c) earlier) members t hs) where
  abbrev w : World
  w = run (new_world c) earlier

  unknown : Unknown t w.parties w.sent
  unknown = (first_unnamed c earlier).unknown t (quiet_is_new w members t hs quiet)

  premises : Premises c w members t hs
  premises =
      record {
        layout = lay;
        facts = first_facts c earlier hs;
        there = shard_of_key c lay earlier hs;
        fresh = λ v i d sh x y s version value m there is at none read. not_newer c lay earlier hs members t quiet unknown v i y s version value is at read d sh x there none;
        unknown = unknown;
        sent_before = (first_unnamed c earlier).sent_before;
      }

  law : AreFew (run w hs) members t × (AreDelivered (run w hs) members t → HasCommitted (run w hs) t) × (AreDelivered (run w hs) members t → In (Learned t Committed) (lines w hs))
  law =
      few_and_committed c w members t hs quiet premises (clients_fit c lay earlier hs t) (λ d sh y z m is there fin. finished_is_listed c lay earlier hs t d sh y z is there fin)
      (λ d sh dc is. shard_at_moment c [] w hs (First earlier) (run w hs) (end_in w hs) d sh dc is)

  pub few_are_needed : AreFew (run w hs) members t
  few_are_needed = law.0

  pub delivered_commits : AreDelivered (run w hs) members t → HasCommitted (run w hs) t
  delivered_commits = law.1

  pub delivered_prints : AreDelivered (run w hs) members t → In (Learned t Committed) (lines w hs)
  delivered_prints = law.2
