-- Scripts that end early.
use Rattle.std.specs.Prelude.{[], ◌∷◌, ◌++◌, codes}
use Rattle.rc_runs.specs.Text.{BadScript}
use Rattle.rc_protocol_rows.specs.Cases.{Case, ended}

-- no message has the number
abbrev pub not_sent : Case
not_sent = record {
  script = ended (codes "world 3 1" ∷ codes "deliver 99" ∷ []);
  text = ended (codes "line 2: message 99 was not sent" ∷ []);
  ending = BadScript;
}

-- a delivered message is not pending
abbrev pub not_pending : Case
not_pending = record {
  script = ended (codes "world 3 1" ∷ codes "begin t1" ∷ codes "read t1 x" ∷ codes "deliver 1" ∷ codes "lose 1" ∷ []);
  text = ended (codes "line 5: message 1 is not pending" ∷ []);
  ending = BadScript;
}

-- a transaction begins once
abbrev pub begun_twice : Case
begun_twice = record {
  script = ended (codes "world 3 1" ∷ codes "begin t1" ∷ codes "begin t1" ∷ []);
  text = ended (codes "line 3: t1 is begun twice" ∷ []);
  ending = BadScript;
}

-- after its commit a transaction reads no more
abbrev pub not_open : Case
not_open = record {
  script = ended (codes "world 3 1" ∷ codes "begin t1" ∷ codes "commit t1" ∷ codes "read t1 x" ∷ []);
  text = ended (codes "line 4: t1 is not open" ∷ []);
  ending = BadScript;
}

-- there are no worlds of two datacentres
abbrev pub two_datacentres : Case
two_datacentres = record {
  script = ended (codes "world 2 1" ∷ []);
  text = ended (codes "line 1: outside the grammar" ∷ []);
  ending = BadScript;
}

-- each shard but the first needs a split key
abbrev pub split_missing : Case
split_missing = record {
  script = ended (codes "world 3 2" ∷ codes "begin t1" ∷ []);
  text = ended (codes "line 2: outside the grammar" ∷ []);
  ending = BadScript;
}

-- a line that ends too early
abbrev pub cut_short : Case
cut_short = record {
  script = ended (codes "world 3 1" ∷ []) ++ codes "begi";
  text = ended (codes "line 2: outside the grammar" ∷ []);
  ending = BadScript;
}

-- a weight is at least 1
abbrev pub weight_of_nothing : Case
weight_of_nothing = record {
  script = ended (codes "world 3 1 0 1 1" ∷ []);
  text = ended (codes "line 1: outside the grammar" ∷ []);
  ending = BadScript;
}

-- each datacentre needs a weight
abbrev pub weights_missing : Case
weights_missing = record {
  script = ended (codes "world 3 1 1 1" ∷ []);
  text = ended (codes "line 1: outside the grammar" ∷ []);
  ending = BadScript;
}
