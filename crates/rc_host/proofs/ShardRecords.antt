-- The records of a shard server's acts.
use Rattle.std.proofs.Common.{ℕ, ◌+◌, Bool, true, false, List, [], ◌∷◌, length, Option, Some, None, IfSome, IsTrue, is_some, refl}
use Rattle.std.specs.Prelude.{if◌then◌else◌}
use Rattle.std.specs.Ordering.{nat_cmp}
use Rattle.rc_ids.specs.Tables.{found, maybe}
use Rattle.rc_ids.specs.Cluster.{Layout, is_dc}
use Rattle.rc_body.specs.declared.decision.Decision.{Decision}
use Rattle.rc_msg.specs.declared.msg.Msg.{Msg}
use Rattle.rc_msg.specs.declared.msg.Msg.TheVariants.{ReadAsk, ReadCancel, Prepare, Finish, CatchPage}
use Rattle.rc_body.specs.declared.entry.Entry.{Entry}
use Rattle.rc_record.specs.declared.record.Record.{Record}
use Rattle.rc_record.specs.Kinds.{is_shard_record}
use Rattle.rc_protocol.specs.Acts.{NodeCause, Came, Catches, Takes, shard_act}
use Rattle.rc_protocol.specs.Shard.{ShardDurable, ShardVolatile, ShardAct, ignores_ask, is_free, test, takes_page, with_shard_cursor, unfinished, is_next_shard_page, shard_row}

-- a record is a shard server's
pub record IsOwn (act : ShardAct) : Type 0 where
  pub own : IfSome act.logs (λ (r : Record). IsTrue (is_shard_record r))

-- of two acts, and of an act that looks something up
either_way : (b : Bool) (x y : ShardAct) → IsOwn x → IsOwn y → IsOwn (if b then x else y)
either_way true x y one other = one
either_way false x y one other = other

in_case : {A : Type 0} (o : Option A) (x : ShardAct) (y : A → ShardAct) → IsOwn x → ((a : A) → IsOwn (y a)) → IsOwn (maybe o x y)
in_case None x y one other = one
in_case (Some a) x y one other = other a

module _ (c : Layout) (d sh : ℕ) (s : ShardDurable) (v : ShardVolatile) where
  prepare_own : (t : ℕ) (part : List Entry) → IsOwn (shard_row c d sh s v (Prepare t part))
  prepare_own t part =
      either_way (is_some (found nat_cmp s.finished t)) _ _ (record { own = tt })
      (either_way (is_some (found nat_cmp s.parts t)) _ _ (record { own = tt }) (in_case (test s v t part) _ _ (record { own = refl }) (λ reason. record { own = tt })))

  page_own : (w : ShardVolatile) (page : List (ℕ × Decision)) → IfSome (takes_page d s w page).logs (λ (r : Record). IsTrue (is_shard_record r))
  page_own w [] = tt
  page_own w (e ∷ es) = refl

  row_own : (m : Msg) → IsOwn (shard_row c d sh s v m)
  row_own (ReadAsk t k) = either_way (ignores_ask s v t k) _ _ (record { own = tt }) (either_way (is_free s.parts (k, t)) _ _ (record { own = tt }) (record { own = tt }))
  row_own (ReadCancel t k) = record { own = tt }
  row_own (Prepare t part) = prepare_own t part
  row_own (Finish t o) = either_way (is_some (found nat_cmp s.finished t)) _ _ (record { own = tt }) (record { own = refl })
  row_own (CatchPage from place page) =
      either_way (is_dc c from) _ _ (either_way (is_next_shard_page v place page) _ _ (record { own = page_own (with_shard_cursor v (place + length page)) (unfinished c sh s page) }) (record { own = tt })) (record { own = tt })
  row_own _ = record { own = tt }

  pub shard_records : (cause : NodeCause) → IsOwn (shard_act c d sh s v cause)
  shard_records (Came from m) = row_own m
  shard_records Catches = record { own = tt }
  shard_records (Takes t) = record { own = tt }
