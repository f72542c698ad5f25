-- What is posted on an outbox, and taken back.
use Rattle.std.specs.Prelude.{◌≡◌, ◌≤◌, List, [], ◌∷◌, length}
use Rattle.rc_ids.specs.declared.names.Party.{Party}
use Rattle.rc_msg.specs.declared.msg.Msg.{Msg}
use Rattle.rc_msg.specs.Outboxes.{Outbox, posted, cut}

-- with these messages more, in order
abbrev pub posted_all : Outbox → List (Party × Msg) → Outbox
posted_all out [] = out
posted_all out (m ∷ ms) = posted_all (posted out m.0 m.1) ms

-- the new outbox has more than the old one: a cut gives the old one back
pub record Grows (old new : Outbox) : Type 0 where
  pub longer : length old.letters ≤ length new.letters
  pub back : cut new (length old.letters) ≡ old
