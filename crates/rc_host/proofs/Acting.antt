-- What an act of a node makes of its host.
use Rattle.std.proofs.Common.{◌≡◌, ℕ, List, [], ◌∷◌, ◌++◌, Option, Some, None, option_map, length, refl, sym, ap, ◌∙◌, subst, append_assoc, ◌+◌, arith, length-append}
use Rattle.std.proofs.lemmas.List.Sums.{sum_by-append}
use Rattle.rc_log.specs.Records.{size_of}
use Rattle.rc_ids.specs.Tables.{maybe}
use Rattle.rc_record.specs.declared.record.Record.{Record}
use Rattle.rc_record.specs.Reading.{decoded}
use Rattle.rc_record.specs.Spelling.{record_bytes}
use Rattle.rc_log.specs.Journals.{State}
use Rattle.rc_node.specs.Acts.{Enters}
use Rattle.rc_protocol.specs.Nodes.{logged}
use Rattle.rc_runs.specs.World.{Course, Goes}
use Rattle.rc_runs.specs.Devices.{Device, Fate, Made, appended, course_of, record_length}
use Rattle.rc_runs.specs.Session.{after_append}
use Rattle.rc_runs.specs.Stored.{records_of, without_head}
use Rattle.rc_devices.specs.Laws.{IsTold}
use Rattle.rc_devices.proofs.Appends.{appends_are_devices}
use Rattle.rc_host.specs.AnyNode.{AnyAct, NodeDurable}
use Rattle.rc_host.specs.Standing.{Standing, after_act, course_on, device_after}
use Rattle.rc_host.specs.Hosts.{Run, HasLog, IsLogged}

-- one record more is read behind the others
abbrev read_one : List ℕ → List Record
read_one bytes = maybe (decoded bytes) [] without_head

pub records_of_more : (blobs : List (List ℕ)) (bytes : List ℕ) → records_of (blobs ++ bytes ∷ []) ≡ records_of blobs ++ records_of (bytes ∷ [])
records_of_more [] bytes = refl
records_of_more (b ∷ blobs) bytes =
    ap (λ (rest : List Record). read_one b ++ rest) (records_of_more blobs bytes) ∙ sym (append_assoc (read_one b) (records_of blobs) (records_of (bytes ∷ [])))

pub size_of_more : (blobs : List (List ℕ)) (bytes : List ℕ) → size_of blobs + 5 + length bytes ≡ size_of (blobs ++ bytes ∷ [])
size_of_more blobs bytes = omega (arith, sum_by-append (λ (r : List ℕ). length r + 5) blobs (bytes ∷ []))

-- what comes of an append, as the course of the event and the device after it
abbrev pub Comes : Device → AnyAct → Course → Option Device → Type 0
Comes d act course device = (course_on d act ≡ course) × (device_after d act ≡ device)

pub comes_none : (d : Device) (act : AnyAct) → act.logs ≡ None → Comes d act Goes (Some d)
comes_none d act none = (
  ap (λ (o : Option Record). maybe o Goes (λ r. course_of (appended d (record_length r)).0)) none,
  ap (λ (o : Option Record). maybe o (Some d) (λ r. after_append (appended d (record_length r)).0 (appended d (record_length r)).1)) none,
)

pub comes_some : (d : Device) (act : AnyAct) (r : Record) (fate : Fate) (after : Device) → act.logs ≡ Some r → appended d (record_length r) ≡ (fate, after) → Comes d act (course_of fate) (after_append fate after)
comes_some d act r fate after some is = (
  ap (λ (o : Option Record). maybe o Goes (λ s. course_of (appended d (record_length s)).0)) some ∙ ap (λ (p : Fate × Device). course_of p.0) is,
  ap (λ (o : Option Record). maybe o (Some d) (λ s. after_append (appended d (record_length s)).0 (appended d (record_length s)).1)) some ∙ ap (λ (p : Fate × Device). after_append p.0 p.1) is,
)

module _ (gives : List (List ℕ) → NodeDurable → Type 0) (run : Run) (x : Standing) (d : Device) (act : AnyAct) where
  -- the log and the device after an act that was done
  pub record Gone (new : State) : Type 0 where
    pub device : Device
    pub comes : Comes d act Goes (Some device)
    pub blobs : List (List ℕ)
    pub log : HasLog gives run new blobs (after_act x act) device

  pub no_record : (old new : State) (blobs : List (List ℕ)) → HasLog gives run old blobs x d → act.logs ≡ None → act.durable ≡ x.durable → new ≡ old → Gone new
  no_record old new blobs log none same is = record {
    device = d;
    comes = comes_none d act none;
    blobs = blobs;
    log = subst (λ (s : State). HasLog gives run s blobs (after_act x act) d) (sym is)
        (record {
          has = log.has;
          count = log.count;
          size = log.size;
          holds = record {
            log = log.holds.log ∙ ap (logged x.log) (sym none);
            back = subst (gives blobs) (sym same) log.holds.back;
          };
          device = log.device;
          sound = log.sound;
        });
  }

  pub one_record : (old new : State) (blobs : List (List ℕ)) (r : Record) → HasLog gives run old blobs x d → act.logs ≡ Some r → IsLogged gives x act r → Enters old new (record_bytes r) → IsTold new run.ended → Gone new
  one_record old new blobs r log some logs enters told =
      let made = (appends_are_devices run.begun run.ended old d (record_bytes r) log.device).done new enters.adds enters.fits told in
      record {
        device = made.after;
        comes = comes_some d act r Made made.after some made.is;
        blobs = blobs ++ record_bytes r ∷ [];
        log = record {
          has = enters.adds.adds ∙ ap (option_map (λ (rs : List (List ℕ)). rs ++ record_bytes r ∷ [])) log.has;
          count = enters.adds.counts_it ∙ ap (λ (n : ℕ). n + 1) log.count ∙ sym (length-append blobs (record_bytes r ∷ []));
          size = enters.adds.grows ∙ ap (λ (n : ℕ). n + 5 + length (record_bytes r)) log.size ∙ size_of_more blobs (record_bytes r);
          holds = record {
            log = records_of_more blobs (record_bytes r) ∙ ap (λ (rs : List Record). rs ++ records_of (record_bytes r ∷ [])) log.holds.log ∙ ap (λ (rs : List Record). x.log ++ rs) logs.again ∙ ap (logged x.log) (sym some);
            back = logs.gives_more blobs log.holds.back;
          };
          device = made.device;
          sound = enters.adds.sound;
        };
      }
