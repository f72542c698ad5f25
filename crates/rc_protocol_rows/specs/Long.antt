-- A datacentre that was down catches up.
use Rattle.std.specs.Prelude.{◌≡◌, ℕ, ◌+◌, List, [], ◌∷◌, ◌++◌, map, codes}
use Rattle.std.specs.Fmt.{decimal}
use Rattle.std.specs.List.{flat_map}
use Rattle.rc_ids.specs.Tables.{up_to}
use Rattle.rc_body.specs.declared.decision.Decision.{Decision}
use Rattle.rc_body.specs.declared.decision.Decision.TheVariants.{Abort}
use Rattle.rc_msg.specs.declared.msg.Msg.TheVariants.{CatchAsk, CatchPage, Finish}
use Rattle.rc_record.specs.declared.coord.CoordDurable.{CoordDurable}
use Rattle.rc_protocol.specs.Messages.{Posts, coordinator, shard_server, one}
use Rattle.rc_protocol.specs.Coordinator.{CoordAct, coord_row, new_volatile, cursor_of, with_coord_cursor}
use Rattle.rc_runs.specs.Text.{Done}
use Rattle.rc_protocol_rows.specs.Cases.{Case, ended, three_dcs}

-- one transaction that writes a key
abbrev pub writing : ℕ → List (List ℕ)
writing i =
    (codes "begin t" ++ decimal i) ∷ (codes "write t" ++ decimal i ++ codes " k v" ++ decimal i) ∷ (codes "commit t" ++ decimal i)
    ∷ codes "settle" ∷ []

abbrev pub wrote : ℕ → List (List ℕ)
wrote i = (codes "t" ++ decimal i ++ codes " committed") ∷ codes "settled 23" ∷ []

abbrev pub row_of : ℕ → ℕ → List ℕ
row_of d count = codes "d" ++ decimal d ++ codes ".s1 k " ++ decimal count ++ codes " free v" ++ decimal count

-- a datacentre missed so many transactions, fewer than fill a page
abbrev pub caught_up : ℕ → Case
caught_up count = record {
  script = ended (
      (codes "world 3 1" ∷ codes "crash d3" ∷ codes "crash d3.s1" ∷ []) ++ flat_map writing (up_to count)
      ++ (codes "restart d3" ∷ codes "restart d3.s1" ∷ codes "settle" ∷ codes "show d1" ∷ codes "show d3" ∷ []));
  text = ended (
      (codes "d3 stopped" ∷ codes "d3.s1 stopped" ∷ []) ++ flat_map wrote (up_to count)
      ++ (codes "d3 up" ∷ codes "d3.s1 up" ∷ (codes "settled " ++ decimal (count + 6)) ∷ row_of 1 count ∷ row_of 3 count ∷ []));
  ending = Done;
}

-- PAGES: a list of seventy outcomes goes over in a page of 64 and one of 6
abbrev pub outcomes : List (ℕ × Decision)
outcomes = map (λ (t : ℕ). (t, Abort)) (up_to 70)

abbrev pub listing : List (ℕ × Decision) → CoordDurable
listing entries = record { promises = []; accepted = []; outcomes = entries }

-- d1 answers d3
abbrev pub answer : ℕ → CoordAct
answer place = coord_row three_dcs 1 (listing outcomes) new_volatile (coordinator 3) (CatchAsk place)

-- d3, which stands at a place of the list of d1, is sent a page from a place on
abbrev pub taking : List (ℕ × Decision) → ℕ → ℕ → List (ℕ × Decision) → CoordAct
taking known at place page = coord_row three_dcs 3 (listing known) (with_coord_cursor new_volatile 1 at) (coordinator 1) (CatchPage 1 place page)

abbrev pub finishes : List (ℕ × Decision) → Posts
finishes entries = map (λ (e : ℕ × Decision). (shard_server 3 1, Finish e.0 e.1)) entries

pub record PagesGo (first rest : List (ℕ × Decision)) : Type 0 where
  pub first_page : (answer 0).sends ≡ one (coordinator 3) (CatchPage 1 0 first)
  pub next_page : (answer 64).sends ≡ one (coordinator 3) (CatchPage 1 64 rest)
  pub no_page : (answer 70).sends ≡ one (coordinator 3) (CatchPage 1 70 [])
  -- after a full page the next one is asked for, and not after one that is not full
  pub asks_on : (taking [] 0 0 first).sends ≡ finishes first ++ one (coordinator 1) (CatchAsk 64)
  pub asks_no_more : (taking first 64 64 rest).sends ≡ finishes rest
  pub place : cursor_of (taking first 64 64 rest).after 1 ≡ 70
  -- a page that comes again changes nothing
  pub again : (taking first 64 0 first).sends ≡ []
  pub stays : cursor_of (taking first 64 0 first).after 1 ≡ 64
