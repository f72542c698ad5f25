-- What is explained, as the definition of one map takes it.
use Rattle.std.specs.Prelude.{ℕ, List, [], ◌∷◌, map, Option}
use Rattle.rc_ids.specs.Tables.{put}
use Rattle.rc_ids.specs.Texts.{key_cmp}
use Rattle.rc_body.specs.Rows.{Row}
use Rattle.rc_body.specs.declared.entry.Entry.{Entry}
use Rattle.rc_serial.specs.OneMap.{Map, FirstWrong}
use Rattle.rc_serial.specs.declared.committed.Committed.{Committed}
use Rattle.rc_serial.specs.declared.committed.FirstWrong.{FirstWrong as Wrong}

-- the map with these rows besides
abbrev pub with_rows : Map → List Row → Map
with_rows m [] = m
with_rows m (r ∷ rs) = with_rows (put key_cmp m r.0 r.1) rs

-- the map that has these rows; no key comes twice among them
abbrev pub map_of : List Row → Map
map_of rows = with_rows [] rows

-- the transactions in their order, each with its entries
abbrev pub order_of : List Committed → List (ℕ × List Entry)
order_of order = map (λ (c : Committed). (c.tx, c.body)) order

abbrev pub wrong_of : Wrong → FirstWrong
wrong_of w = record { place = w.place; key = w.key; expected = w.expected; read = w.read }

-- no read that was served is looked at: those of a committed transaction stand in its body
abbrev pub NoneServed : ℕ → List ℕ → ℕ → Option (List ℕ) → Type 0
NoneServed t k version value = ⊥
