-- Nodes that stop and start again.
use Rattle.std.specs.Prelude.{[], ◌∷◌, codes}
use Rattle.rc_runs.specs.Text.{Done, BadScript}
use Rattle.rc_protocol_rows.specs.Cases.{Case, ended}

-- every node stops, and what was voted is committed by a take-over
abbrev pub all_stop : Case
all_stop = record {
  script = ended (
      codes "world 3 1" ∷ codes "begin t1" ∷ codes "write t1 x a" ∷ codes "commit t1" ∷ codes "step 16"
      ∷ codes "deliver 20 24" ∷ codes "crash d1" ∷ codes "crash d2" ∷ codes "crash d3" ∷ codes "crash d1.s1"
      ∷ codes "crash d2.s1" ∷ codes "crash d3.s1" ∷ codes "settle" ∷ codes "restart d1" ∷ codes "restart d2"
      ∷ codes "restart d3" ∷ codes "restart d1.s1" ∷ codes "restart d2.s1" ∷ codes "restart d3.s1" ∷ codes "settle"
      ∷ codes "show d1" ∷ codes "take d1 t1" ∷ codes "settle" ∷ codes "show d1" ∷ codes "order" ∷ []);
  text = ended (
      codes "t1 committed" ∷ codes "d1 stopped" ∷ codes "d2 stopped" ∷ codes "d3 stopped" ∷ codes "d1.s1 stopped"
      ∷ codes "d2.s1 stopped" ∷ codes "d3.s1 stopped" ∷ codes "settled 10" ∷ codes "d1 up" ∷ codes "d2 up" ∷ codes "d3 up"
      ∷ codes "d1.s1 up" ∷ codes "d2.s1 up" ∷ codes "d3.s1 up" ∷ codes "settled 18" ∷ codes "d1.s1 x 0 held -"
      ∷ codes "settled 30" ∷ codes "d1.s1 x 1 free a" ∷ codes "order t1" ∷ []);
  ending = Done;
}

-- two datacentres commit beside a third that is down
abbrev pub beside_a_minority : Case
beside_a_minority = record {
  script = ended (
      codes "world 3 1" ∷ codes "crash d3" ∷ codes "crash d3.s1" ∷ codes "begin t1" ∷ codes "write t1 x a"
      ∷ codes "commit t1" ∷ codes "deliver 1 2 4 5 7 8 10 11 12 13 17 21" ∷ []);
  text = ended (codes "d3 stopped" ∷ codes "d3.s1 stopped" ∷ codes "t1 committed" ∷ []);
  ending = Done;
}

-- a datacentre that is a quorum commits alone
abbrev pub alone : Case
alone = record {
  script = ended (
      codes "world 3 1 3 1 1" ∷ codes "crash d2" ∷ codes "crash d3" ∷ codes "crash d2.s1" ∷ codes "crash d3.s1"
      ∷ codes "begin t1" ∷ codes "write t1 x a" ∷ codes "commit t1" ∷ codes "settle" ∷ []);
  text = ended (
      codes "d2 stopped" ∷ codes "d3 stopped" ∷ codes "d2.s1 stopped" ∷ codes "d3.s1 stopped" ∷ codes "t1 committed"
      ∷ codes "settled 16" ∷ []);
  ending = Done;
}

-- a stopped node takes nothing over
abbrev pub down : Case
down = record {
  script = ended (codes "world 3 1" ∷ codes "crash d1" ∷ codes "take d1 t1" ∷ []);
  text = ended (codes "d1 stopped" ∷ codes "line 3: d1 is down" ∷ []);
  ending = BadScript;
}
