-- Names, values and scripts at the ends of their ranges.
use Rattle.std.specs.Prelude.{◌≡◌, ℕ, List, [], ◌∷◌, ◌++◌, map, replicate, codes, None, Some}
use Rattle.std.specs.Fmt.{decimal}
use Rattle.rc_ids.specs.Tables.{up_to}
use Rattle.rc_report.specs.declared.fault.Which.TheVariants.{Transactions}
use Rattle.rc_runs.specs.declared.event.Event.TheVariants.{Begin}
use Rattle.rc_protocol.specs.Client.{new_client}
use Rattle.rc_runs.specs.World.{World, Goes, new_start}
use Rattle.rc_runs.specs.Refusals.{limit}
use Rattle.rc_runs.specs.Text.{Ending, Done, BadScript}
use Rattle.rc_protocol_rows.specs.Cases.{Case, ended, three_dcs}

abbrev pub with_line : List ℕ → List ℕ → Ending → Case
with_line line text ending = record { script = ended (codes "world 3 1" ∷ codes "begin t1" ∷ line ∷ []); text = text; ending = ending }

abbrev pub outside : List ℕ
outside = ended (codes "line 3: outside the grammar" ∷ [])

-- a key of so many letters k, and a value of so many letters v
abbrev pub reads_key : ℕ → List ℕ
reads_key n = codes "read t1 " ++ replicate n 107

abbrev pub writes_value : ℕ → List ℕ
writes_value n = codes "write t1 x " ++ replicate n 118

abbrev pub longest_key : Case
longest_key = with_line (reads_key 64) [] Done

abbrev pub longer_key : Case
longer_key = with_line (reads_key 65) outside BadScript

abbrev pub longest_value : Case
longest_value = with_line (writes_value 1024) [] Done

abbrev pub longer_value : Case
longer_value = with_line (writes_value 1025) outside BadScript

-- one key more than a transaction may have
abbrev pub keys_in_excess : Case
keys_in_excess = record {
  script = ended ((codes "world 3 1" ∷ codes "begin t1" ∷ []) ++ map (λ (n : ℕ). codes "read t1 k" ++ decimal n) (up_to 33));
  text = ended (codes "line 35: t1 has 32 keys" ∷ []);
  ending = BadScript;
}

-- a world in which so many transactions are begun
abbrev pub with_begun : ℕ → World
with_begun count = record {
  parties = record {
    layout = three_dcs;
    start = new_start;
    coords = [];
    shards = [];
    committed = [];
    clients = map (λ (t : ℕ). (t, new_client)) (up_to count);
  };
  sent = [];
  bytes = 0;
  pending = [];
  delivered = [];
  events = 0;
}

pub record BeginsEnd : Type 0 where
  pub last : limit (with_begun 1023) (Begin 1024) Goes ≡ None
  pub in_excess : limit (with_begun 1024) (Begin 1025) Goes ≡ Some Transactions
