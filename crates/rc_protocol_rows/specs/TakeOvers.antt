-- Transactions that another datacentre takes over.
use Rattle.std.specs.Prelude.{[], ◌∷◌, codes}
use Rattle.rc_runs.specs.Text.{Done}
use Rattle.rc_protocol_rows.specs.Cases.{Case, ended}

-- the client is gone before it learns its outcome
abbrev pub finished_by_another : Case
finished_by_another = record {
  script = ended (
      codes "world 3 2" ∷ codes "split m" ∷ codes "begin t1" ∷ codes "write t1 a 1" ∷ codes "write t1 z 2"
      ∷ codes "commit t1" ∷ codes "step 12" ∷ codes "vanish t1" ∷ codes "step 17"
      ∷ codes "lose 30 31 32 33 34 35 36 37 38 39 40 41" ∷ codes "take d2 t1" ∷ codes "settle" ∷ codes "show d2"
      ∷ codes "order" ∷ []);
  text = ended (codes "settled 27" ∷ codes "d2.s1 a 1 free 1" ∷ codes "d2.s2 z 1 free 2" ∷ codes "order t1" ∷ []);
  ending = Done;
}

-- a first take-over aborts, and a second one tells who has not heard
abbrev pub taken_twice : Case
taken_twice = record {
  script = ended (
      codes "world 3 1" ∷ codes "begin t1" ∷ codes "begin t2" ∷ codes "read t1 x" ∷ codes "read t2 x" ∷ codes "settle"
      ∷ codes "write t1 x a" ∷ codes "write t2 x b" ∷ codes "commit t1" ∷ codes "commit t2" ∷ codes "deliver 15 19 21 22"
      ∷ codes "vanish t2" ∷ codes "settle" ∷ codes "take d3 t2" ∷ codes "settle" ∷ codes "show d2" ∷ codes "take d1 t2"
      ∷ codes "deliver 70 72 73 74" ∷ codes "settle" ∷ codes "show d2" ∷ codes "order" ∷ []);
  text = ended (
      codes "t1 read x 0 -" ∷ codes "t2 read x 0 -" ∷ codes "settled 14" ∷ codes "t1 refused d2 locked x t2"
      ∷ codes "t1 committed" ∷ codes "settled 32" ∷ codes "settled 19" ∷ codes "d2.s1 x 1 held a" ∷ codes "settled 20"
      ∷ codes "d2.s1 x 1 free a" ∷ codes "order t1" ∷ []);
  ending = Done;
}

-- a take-over promises a higher ballot before the client is heard
abbrev pub outbid : Case
outbid = record {
  script = ended (
      codes "world 3 1" ∷ codes "begin t1" ∷ codes "commit t1" ∷ codes "take d1 t1" ∷ codes "deliver 4 5"
      ∷ codes "settle" ∷ codes "order" ∷ []);
  text = ended (
      codes "t1 refused d1 promised 1" ∷ codes "t1 refused d2 promised 1" ∷ codes "t1 aborted" ∷ codes "settled 38"
      ∷ codes "order" ∷ []);
  ending = Done;
}

-- messages that come again, and one that is lost for good
abbrev pub repeats : Case
repeats = record {
  script = ended (
      codes "world 3 1" ∷ codes "begin t1" ∷ codes "write t1 x a" ∷ codes "commit t1" ∷ codes "settle"
      ∷ codes "deliver 11 11 11 29 29 29 17 17 17" ∷ codes "pending" ∷ codes "deliver 8" ∷ codes "pending" ∷ codes "settle"
      ∷ codes "show d1" ∷ []);
  text = ended (
      codes "t1 committed" ∷ codes "settled 31" ∷ codes "32 d1 t1 Decided t1 commit" ∷ codes "settled 1"
      ∷ codes "d1.s1 x 1 free a" ∷ []);
  ending = Done;
}
