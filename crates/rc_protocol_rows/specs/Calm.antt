-- Transactions one after another.
use Rattle.std.specs.Prelude.{[], ◌∷◌, codes}
use Rattle.rc_runs.specs.Text.{Done}
use Rattle.rc_protocol_rows.specs.Cases.{Case, ended}

-- a script without lines
abbrev pub empty : Case
empty = record {
  script = ended ([]);
  text = ended ([]);
  ending = Done;
}

-- nothing was committed
abbrev pub no_transaction : Case
no_transaction = record {
  script = ended (codes "world 1 1" ∷ codes "order" ∷ []);
  text = ended (codes "order" ∷ []);
  ending = Done;
}

-- t1 writes a key, and t2 reads it
abbrev pub write_then_read : Case
write_then_read = record {
  script = ended (
      codes "world 3 1" ∷ codes "begin t1" ∷ codes "write t1 x a" ∷ codes "commit t1" ∷ codes "settle" ∷ codes "begin t2"
      ∷ codes "read t2 x" ∷ codes "settle" ∷ codes "commit t2" ∷ codes "settle" ∷ codes "order" ∷ []);
  text = ended (
      codes "t1 committed" ∷ codes "settled 31" ∷ codes "t2 read x 1 a" ∷ codes "settled 7" ∷ codes "t2 committed"
      ∷ codes "settled 24" ∷ codes "order t1 t2" ∷ []);
  ending = Done;
}

-- a transaction that touches no key
abbrev pub no_key : Case
no_key = record {
  script = ended (codes "world 3 1" ∷ codes "begin t1" ∷ codes "commit t1" ∷ codes "settle" ∷ codes "order" ∷ []);
  text = ended (codes "t1 committed" ∷ codes "settled 15" ∷ codes "order t1" ∷ []);
  ending = Done;
}

-- an empty value, read by its writer and by the next transaction
abbrev pub own_write : Case
own_write = record {
  script = ended (
      codes "world 3 1" ∷ codes "begin t1" ∷ codes "read t1 x" ∷ codes "settle" ∷ codes "write t1 x" ∷ codes "read t1 x"
      ∷ codes "settle" ∷ codes "commit t1" ∷ codes "settle" ∷ codes "begin t2" ∷ codes "read t2 x" ∷ codes "settle" ∷ []);
  text = ended (
      codes "t1 read x 0 -" ∷ codes "settled 7" ∷ codes "t1 own x " ∷ codes "settled 0" ∷ codes "t1 committed"
      ∷ codes "settled 24" ∷ codes "t2 read x 1 " ∷ codes "settled 7" ∷ []);
  ending = Done;
}

-- t2 deletes what t1 wrote, and t3 finds it gone
abbrev pub deletion : Case
deletion = record {
  script = ended (
      codes "world 3 1" ∷ codes "begin t1" ∷ codes "write t1 x a" ∷ codes "commit t1" ∷ codes "settle" ∷ codes "begin t2"
      ∷ codes "delete t2 x" ∷ codes "read t2 x" ∷ codes "commit t2" ∷ codes "settle" ∷ codes "begin t3" ∷ codes "read t3 x"
      ∷ codes "settle" ∷ codes "show d1" ∷ codes "order" ∷ []);
  text = ended (
      codes "t1 committed" ∷ codes "settled 31" ∷ codes "t2 deletes x" ∷ codes "t2 committed" ∷ codes "settled 31"
      ∷ codes "t3 gone x 2" ∷ codes "settled 7" ∷ codes "d1.s1 x 2 gone free" ∷ codes "order t1 t2" ∷ []);
  ending = Done;
}

-- a datacentre that is a quorum by itself
abbrev pub heavy_datacentre : Case
heavy_datacentre = record {
  script = ended (
      codes "world 3 1 3 1 1" ∷ codes "begin t1" ∷ codes "write t1 x a" ∷ codes "commit t1" ∷ codes "settle"
      ∷ codes "order" ∷ []);
  text = ended (codes "t1 committed" ∷ codes "settled 32" ∷ codes "order t1" ∷ []);
  ending = Done;
}
