-- The log of a node that stopped inside an event, opened at once.
use Rattle.std.proofs.Common.{◌≡◌, ℕ, List, Option, Some, None, option_map, IfSome, Result, Ok, Err, length, sym, ap, ◌∙◌, subst, true}
use Rattle.std.specs.Prelude.{nat_lt}
use Rattle.rc_disk.specs.declared.power.Power.{Power}
use Rattle.rc_disk.specs.declared.power.Power.TheVariants.{On}
use Rattle.rc_disk.specs.Calls.{Told, read_bytes, powered as powered_disk}
use Rattle.rc_log.specs.Append.{power_past}
use Rattle.rc_log.specs.Journals.{State, Begins}
use Rattle.rc_log.specs.Opening.{synced_and_read, refused_at, IsNoOpen, FailsToOpen}
use Rattle.rc_log.specs.Records.{records, size_of}
use Rattle.rc_log.specs.declared.fault.OpenFault.{OpenFault}
use Rattle.rc_log.specs.declared.fault.OpenFault.TheVariants.{Failed}
use Rattle.rc_runs.specs.Devices.{Device, opened, powered, most_log_bytes}
use Rattle.rc_devices.specs.Disks.{IsKept}
use Rattle.rc_devices.proofs.Openings.{openings_are_devices}
use Rattle.rc_host.specs.declared.host.Course.TheVariants.{Stops}
use Rattle.rc_host.specs.Hosts.{Run, StopsAt, IsOpenAgain}

ok_inj : (x y : List (List ℕ)) → ◌≡◌ {A = Result (List (List ℕ)) ℕ} (Ok x) (Ok y) → x ≡ y
ok_inj x y e = ap value e
  where
    value : Result (List (List ℕ)) ℕ → List (List ℕ)
    value (Ok a) = a
    value (Err b) = x

module _ (run : Run) (log : State) (blobs : List (List ℕ)) (d : Device) (stops : StopsAt run log blobs d) (on : Option Told) (content : Option (List ℕ)) (on_is : on ≡ option_map powered_disk log.told) where
  abbrev told : Told
  told = powered_disk stops.told

  told_is : on ≡ Some told
  told_is = on_is ∙ ap (option_map powered_disk) stops.tells

  pub open_again : (after : State) (now : List (List ℕ)) (count len : ℕ) (power : Power) → count ≡ log.count → len ≡ length now → power ≡ On → IfSome on (λ t. content ≡ Some (read_bytes t)) → IfSome content (λ c. records c ≡ Ok now)
      → Begins after now most_log_bytes content (option_map (synced_and_read true) on) (power_past 1 power) → IfSome after.told (λ t. IsKept t run.ended)
      → IsOpenAgain run log after blobs now d (Stops (nat_lt count len))
  open_again after now count len power count_is len_is power_is law is begins kept_after =
      let content_is : content ≡ Some (read_bytes told) = subst (λ (o : Option Told). IfSome o (λ t. content ≡ Some (read_bytes t))) told_is law in
      let has : records (read_bytes told) ≡ Ok now = subst (λ (o : Option (List ℕ)). IfSome o (λ c. records c ≡ Ok now)) content_is is in
      let same : now ≡ blobs = ok_inj now blobs (sym has ∙ stops.left) in
      let after_told : after.told ≡ Some (synced_and_read true told) = begins.calls ∙ ap (option_map (synced_and_read true)) told_is in
      let kept : IsKept (synced_and_read true told) run.ended = subst (λ (o : Option Told). IfSome o (λ t. IsKept t run.ended)) after_told kept_after in
      let done = (openings_are_devices run.begun run.ended told (powered d) stops.disk).done kept in
      record {
        same = same;
        has = begins.has ∙ ap (option_map (λ (c : List ℕ). now)) content_is ∙ ap Some same;
        count = begins.count_is ∙ ap length same;
        size = begins.size_is ∙ ap size_of same;
        opens = done.0;
        device = record {
          told = synced_and_read true told;
          tells = after_told;
          power = On;
          has_power = begins.power_is ∙ ap (λ (p : Power). Some (power_past 1 p)) power_is;
          disk = done.1;
          offset = begins.size_is ∙ ap size_of same ∙ stops.offset;
          limit = begins.limit_is;
        };
        sound = begins.sound;
        course_is = ap (λ (n : ℕ). Stops (nat_lt n len)) count_is ∙ ap (λ (n : ℕ). Stops (nat_lt log.count n)) len_is;
      }

  pub stays_shut : (fault : OpenFault) (len : ℕ) (now : Option Told) (power power_now : Power) (faults faults_now cuts cuts_now : ℕ) → fault ≡ Failed → power ≡ On
      → IsNoOpen len fault on now power power_now faults faults_now cuts cuts_now → IfSome now (λ t. IsKept t run.ended) → opened (powered d) ≡ None
  stays_shut fault len now power power_now faults faults_now cuts cuts_now is power_is refused kept =
      let fails : FailsToOpen len on now power power_now faults faults_now cuts cuts_now = (subst (λ (f : OpenFault). IsNoOpen len f on now power power_now faults faults_now cuts cuts_now) is refused).0 in
      let now_is : now ≡ Some (refused_at fails.call told) = fails.whole_state ∙ ap (option_map (refused_at fails.call)) told_is in
      let at : FailsToOpen len (Some told) (Some (refused_at fails.call told)) power power_now faults faults_now cuts cuts_now =
      subst (λ (o : Option Told). FailsToOpen len (Some told) o power power_now faults faults_now cuts cuts_now) now_is (subst (λ (o : Option Told). FailsToOpen len o now power power_now faults faults_now cuts cuts_now) told_is fails) in
      (openings_are_devices run.begun run.ended told (powered d) stops.disk).failed len (refused_at fails.call told) power power_now faults faults_now cuts cuts_now power_is at
      (subst (λ (o : Option Told). IfSome o (λ t. IsKept t run.ended)) now_is kept)
