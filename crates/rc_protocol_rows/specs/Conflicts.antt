-- Transactions that meet at a key.
use Rattle.std.specs.Prelude.{[], ◌∷◌, codes}
use Rattle.rc_runs.specs.Text.{Done}
use Rattle.rc_protocol_rows.specs.Cases.{Case, ended}

-- both write what both read: one commits, and a take-over aborts the other
abbrev pub conflict : Case
conflict = record {
  script = ended (
      codes "world 3 1" ∷ codes "begin t1" ∷ codes "begin t2" ∷ codes "read t1 x" ∷ codes "read t2 x" ∷ codes "settle"
      ∷ codes "write t1 x a" ∷ codes "write t2 x b" ∷ codes "commit t1" ∷ codes "commit t2" ∷ codes "settle"
      ∷ codes "order" ∷ []);
  text = ended (
      codes "t1 read x 0 -" ∷ codes "t2 read x 0 -" ∷ codes "settled 14" ∷ codes "t1 committed"
      ∷ codes "t2 refused d1 locked x t1" ∷ codes "t2 refused d2 locked x t1" ∷ codes "t2 refused d3 locked x t1"
      ∷ codes "t2 aborted" ∷ codes "settled 61" ∷ codes "order t1" ∷ []);
  ending = Done;
}

-- the same, with votes that come in another order
abbrev pub ordered_conflict : Case
ordered_conflict = record {
  script = ended (
      codes "world 3 1" ∷ codes "begin t1" ∷ codes "begin t2" ∷ codes "read t1 x" ∷ codes "read t2 x" ∷ codes "settle"
      ∷ codes "write t1 x a" ∷ codes "write t2 x b" ∷ codes "commit t1" ∷ codes "commit t2" ∷ codes "deliver 15 19 21 22"
      ∷ codes "settle" ∷ codes "order" ∷ []);
  text = ended (
      codes "t1 read x 0 -" ∷ codes "t2 read x 0 -" ∷ codes "settled 14" ∷ codes "t1 refused d2 locked x t2"
      ∷ codes "t1 committed" ∷ codes "t2 refused d1 locked x t1" ∷ codes "t2 refused d3 locked x t1" ∷ codes "t2 aborted"
      ∷ codes "settled 57" ∷ codes "order t1" ∷ []);
  ending = Done;
}

-- t1's write preempts t2's read lock, so t2 cannot commit
abbrev pub preemption : Case
preemption = record {
  script = ended (
      codes "world 3 1" ∷ codes "begin t1" ∷ codes "begin t2" ∷ codes "read t2 x" ∷ codes "settle" ∷ codes "write t1 x a"
      ∷ codes "commit t1" ∷ codes "settle" ∷ codes "commit t2" ∷ codes "settle" ∷ codes "order" ∷ []);
  text = ended (
      codes "t2 read x 0 -" ∷ codes "settled 7" ∷ codes "t1 committed" ∷ codes "settled 31"
      ∷ codes "t2 refused d1 lost x" ∷ codes "t2 refused d2 lost x" ∷ codes "t2 refused d3 stale x 1" ∷ codes "t2 aborted"
      ∷ codes "settled 37" ∷ codes "order t1" ∷ []);
  ending = Done;
}

-- t2's write meets the locks of t1, which is prepared
abbrev pub prepared_reader : Case
prepared_reader = record {
  script = ended (
      codes "world 3 1" ∷ codes "begin t1" ∷ codes "begin t2" ∷ codes "read t1 x" ∷ codes "settle" ∷ codes "commit t1"
      ∷ codes "step 6" ∷ codes "write t2 x b" ∷ codes "commit t2" ∷ codes "deliver 17 18 20 21 23 26" ∷ codes "settle"
      ∷ codes "order" ∷ []);
  text = ended (
      codes "t1 read x 0 -" ∷ codes "settled 7" ∷ codes "t1 committed" ∷ codes "t2 refused d1 locked x t1"
      ∷ codes "t2 refused d2 locked x t1" ∷ codes "t2 refused d3 locked x t1" ∷ codes "t2 aborted" ∷ codes "settled 56"
      ∷ codes "order t1" ∷ []);
  ending = Done;
}

-- reads wait for an exclusive lock; one is dropped, the other is granted
abbrev pub waiting_reads : Case
waiting_reads = record {
  script = ended (
      codes "world 1 1" ∷ codes "begin t1" ∷ codes "write t1 x a" ∷ codes "commit t1" ∷ codes "step 4" ∷ codes "begin t2"
      ∷ codes "begin t3" ∷ codes "read t2 x" ∷ codes "read t3 x" ∷ codes "deliver 6 7" ∷ codes "cancel t3 x"
      ∷ codes "deliver 8" ∷ codes "settle" ∷ codes "commit t2" ∷ codes "settle" ∷ codes "order" ∷ []);
  text = ended (
      codes "t1 committed" ∷ codes "t2 read x 1 a" ∷ codes "settled 5" ∷ codes "t2 committed" ∷ codes "settled 6"
      ∷ codes "order t1 t2" ∷ []);
  ending = Done;
}

-- a grant of a lock that was lost comes late
abbrev pub late_grant : Case
late_grant = record {
  script = ended (
      codes "world 3 1" ∷ codes "begin t1" ∷ codes "begin t2" ∷ codes "read t1 x" ∷ codes "deliver 1 2 4 5"
      ∷ codes "write t2 x b" ∷ codes "commit t2" ∷ codes "deliver 7 9 10 11 13 15 16 17 18 19"
      ∷ codes "deliver 20 24 22 26 23 27 28 29 3" ∷ codes "commit t1" ∷ codes "deliver 33 34 35 36" ∷ codes "settle"
      ∷ codes "order" ∷ []);
  text = ended (
      codes "t1 read x 0 -" ∷ codes "t2 committed" ∷ codes "t1 refused d3 stale x 1" ∷ codes "t1 refused d1 lost x"
      ∷ codes "t1 refused d2 lost x" ∷ codes "t1 aborted" ∷ codes "settled 44" ∷ codes "order t2" ∷ []);
  ending = Done;
}

-- a datacentre that missed a finish grants the older version
abbrev pub two_versions : Case
two_versions = record {
  script = ended (
      codes "world 3 1" ∷ codes "begin t1" ∷ codes "write t1 x a" ∷ codes "commit t1" ∷ codes "step 6" ∷ codes "lose 10"
      ∷ codes "step 15" ∷ codes "deliver 23" ∷ codes "begin t2" ∷ codes "read t2 x" ∷ codes "deliver 28 26 29 30 27"
      ∷ codes "settle" ∷ codes "commit t2" ∷ codes "settle" ∷ codes "order" ∷ []);
  text = ended (
      codes "t1 committed" ∷ codes "t2 read x 1 a" ∷ codes "settled 4" ∷ codes "t2 committed" ∷ codes "settled 24"
      ∷ codes "order t1 t2" ∷ []);
  ending = Done;
}
