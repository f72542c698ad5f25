-- A calm script is played line by line: it meets a limit where there is no room for it, or it is done and writes what one map prints.
use Rattle.std.proofs.Common.{◌≡◌, ℕ, zero, suc, ◌+◌, ◌≤◌, List, [], ◌∷◌, ◌++◌, refl, sym, ap, ◌∙◌, subst, arith, Bool, true, false, Option, Some, None, ◌⊎◌, inl, inr, ⊎_elim}
use Rattle.std.specs.Prelude.{length, not, ◌&&◌, ◌||◌, ◌==◌}
use Rattle.std.specs.List.{flat_map, list_any}
use Rattle.std.proofs.lemmas.Bool.{eq-eqb}
use Rattle.rc_ids.specs.Tables.{In, maybe}
use Rattle.rc_ids.specs.Texts.{gone}
use Rattle.rc_ids.specs.Cluster.{Layout, IsLayout}
use Rattle.rc_report.specs.declared.line.Line.{Line}
use Rattle.rc_report.specs.declared.line.Line.TheVariants.{Settled, Learned, Order as OrderLine}
use Rattle.rc_report.specs.Lines.{line_text}
use Rattle.rc_script.specs.declared.command.Command.{Command}
use Rattle.rc_script.specs.declared.command.Command.TheVariants as commands
use Rattle.rc_script.specs.declared.script.NumberedCommand.{NumberedCommand}
use Rattle.rc_ids.specs.declared.names.Outcome.TheVariants.{Commit as Committed}
use Rattle.rc_runs.specs.declared.event.Event.TheVariants.{Read, Write, Commit}
use Rattle.rc_runs.specs.Refusals.{most_transactions, most_events}
use Rattle.rc_runs.specs.Session.{Session, text_bytes}
use Rattle.rc_runs.specs.Script.{LineDone, performs, by_event, idle, settles}
use Rattle.rc_runs.specs.Text.{Played, plays}
use Rattle.rc_claims.specs.Calm.{Calm, Touched, touched_of, touched_set, with_due, is_settle, settles_next, is_last, may_stand, last_begun, over_after, is_calm_from, calm_after, calm_line, calm_from, after_write, after_commit, read_line, row_line, read_deliveries, commit_deliveries}
use Rattle.rc_claims.specs.CalmScripts.{has_room, names, begun_after, names_rightly_from}
use Rattle.rc_calm.proofs.Outcomes.{Outcome, Halts, plays_nil, line_then, Covers, room_now, room_then, begins_in, begins_fewer, begins_one}
use Rattle.rc_calm.proofs.ScriptFacts.{Sized, AllSized}
use Rattle.rc_calm.proofs.Between.{Between}
use Rattle.rc_calm.proofs.Costs.{Costs, costs, RoomFor, LimitHit, Stood, Comes, PairComes}
use Rattle.rc_calm.proofs.FreshReads.{then_touched, read_costs, read_line as fresh_line}
use Rattle.rc_calm.proofs.CommitLines.{committed_map, commit_costs, commit_line}
use Rattle.rc_calm.proofs.OneEvents.{begun_map, begin_line, write_line, read_again, same_tx, idle_line, order_line, settle_line, due_zero}

-- what the rest of a script needs, so that each of its lines has room
pub record Covering (c : Layout) (is_layout : IsLayout c) (need : Calm → Bool → List NumberedCommand → Costs) : Type 0 where
  pub idle : (m : Calm) (is_over : Bool) (x : NumberedCommand) (cs : List NumberedCommand) → Covers (need m is_over (x ∷ cs)) (costs 0 0 0 (text_bytes [])) (need m is_over cs)
  pub settle : (m : Calm) (begun : List ℕ) (last : Option ℕ) (is_over : Bool) (z : Session) → Between c m begun last is_over z → (x : NumberedCommand) (cs : List NumberedCommand)
      → Covers (need m is_over (x ∷ cs)) (costs 0 0 0 (text_bytes (Settled m.due ∷ []))) (need m is_over cs)
  pub order : (m : Calm) (begun : List ℕ) (last : Option ℕ) (is_over : Bool) (z : Session) → Between c m begun last is_over z → (x : NumberedCommand) (cs : List NumberedCommand)
      → Covers (need m is_over (x ∷ cs)) (costs 0 0 0 (text_bytes (OrderLine m.committed ∷ []))) (need m is_over cs)
  pub begin : (m : Calm) (t : ℕ) (x : NumberedCommand) (cs : List NumberedCommand) → x.command ≡ commands.Begin t → Covers (need m true (x ∷ cs)) (costs 1 0 0 (text_bytes [])) (need (begun_map m t) false cs)
  pub write : (m : Calm) (begun : List ℕ) (last : Option ℕ) (z : Session) → Between c m begun last false z → (t : ℕ) (k value : List ℕ) (x : NumberedCommand) (cs : List NumberedCommand)
      → (x.command ≡ commands.Write t k value) ⊎ ((x.command ≡ commands.Delete t k) × (value ≡ gone)) → Covers (need m false (x ∷ cs)) (costs 1 0 0 (text_bytes [])) (need (after_write m k value) false cs)
  pub again : (m : Calm) (begun : List ℕ) (last : Option ℕ) (z : Session) → Between c m begun last false z → (k : List ℕ) (y : Touched) → touched_of m.touched k ≡ Some y → length k ≤ 64 → (x : NumberedCommand) (cs : List NumberedCommand)
      → Covers (need m false (x ∷ cs)) (costs 1 0 0 (text_bytes (read_line m k (Some y) ∷ []))) (need (with_due m m.touched 0) false cs)
  pub read : (m : Calm) (begun : List ℕ) (last : Option ℕ) (z : Session) (h : Between c m begun last false z) (k : List ℕ) (room : has_room m.touched k ≡ true) (short : length k ≤ 64) (new : touched_of m.touched k ≡ None)
      → (t : ℕ) (x s : NumberedCommand) (cs : List NumberedCommand) → x.command ≡ commands.Read t k
      → Covers (need m false (x ∷ s ∷ cs)) (read_costs c is_layout m begun last z h k room short new) (need (with_due m (then_touched c is_layout m begun last z h k room short new) 0) false cs)
  pub commit : (m : Calm) (begun : List ℕ) (last : Option ℕ) (z : Session) (h : Between c m begun last false z) (x s : NumberedCommand) (cs : List NumberedCommand)
      → Covers (need m false (x ∷ s ∷ cs)) (commit_costs c is_layout m begun last z h) (need (committed_map m) true cs)

-- PARTS of what is calm and rightly named
pub both_of : (a b : Bool) → (a && b) ≡ true → (a ≡ true) × (b ≡ true)
both_of true b h = (refl, h)
both_of false b h = absurd (cc)

not_true : (b : Bool) → not b ≡ true → b ≡ false
not_true true h = absurd (cc)
not_true false h = refl

pub calm_cons : (last : Option ℕ) (is_over : Bool) (x : NumberedCommand) (cs : List NumberedCommand)
    → is_calm_from last is_over (x ∷ cs) ≡ (may_stand last is_over cs x.command && is_calm_from (last_begun last x.command) (over_after is_over x.command) cs)
unfolding is_calm_from
calm_cons last is_over x cs = refl

names_cons : (c : Layout) (begun : List ℕ) (is_over : Bool) (m : Calm) (x : NumberedCommand) (cs : List NumberedCommand)
    → names_rightly_from c begun is_over m (x ∷ cs)
    ≡ (names begun is_over m x.command && names_rightly_from c (begun_after begun x.command) (over_after is_over x.command) (calm_after c m x.command) cs)
unfolding names_rightly_from
names_cons c begun is_over m x cs = refl

lines_nil : (c : Layout) (m : Calm) → calm_from c m [] ≡ []
unfolding calm_from
lines_nil c m = refl

lines_cons : (c : Layout) (m : Calm) (x : NumberedCommand) (cs : List NumberedCommand) → calm_from c m (x ∷ cs) ≡ calm_line m x.command ++ calm_from c (calm_after c m x.command) cs
unfolding calm_from
lines_cons c m x cs = refl

settle_of : (x : Command) → is_settle x ≡ true → x ≡ commands.Settle
settle_of commands.Settle h = refl
settle_of _ h = absurd (cc)

fresh_of : (begun : List ℕ) (t : ℕ) → list_any (λ (u : ℕ). u == t) begun ≡ false → In t begun → ⊥
fresh_of [] t h i = absurd i
fresh_of (u ∷ begun) t h (inl e) = let k = eq-eqb u t e in let n : (true || list_any (λ (u : ℕ). u == t) begun) ≡ false = ap (λ (v : Bool). v || list_any (λ (u : ℕ). u == t) begun) (sym k) ∙ h in cc
fresh_of (u ∷ begun) t h (inr i) = fresh_of begun t (right_false (u == t) (list_any (λ (u : ℕ). u == t) begun) h) i
  where
    right_false : (a b : Bool) → (a || b) ≡ false → b ≡ false
    right_false true b h = absurd (cc)
    right_false false b h = h

-- THE LINES
module _ (c : Layout) (is_layout : IsLayout c) (need : Calm → Bool → List NumberedCommand → Costs) where
  pub record Rooms (m : Calm) (begun : List ℕ) (is_over : Bool) (z : Session) (cs : List NumberedCommand) : Type 0 where
    pub covering : Covering c is_layout need
    pub few : length begun + begins_in cs ≤ most_transactions
    pub room : RoomFor z (need m is_over cs)

  -- the rest of a script, of so many lines
  abbrev PlaysOn : ℕ → Type 0
  PlaysOn n =
      (cs : List NumberedCommand) → length cs ≤ n → (m : Calm) (begun : List ℕ) (last : Option ℕ) (is_over : Bool) (z : Session) → Between c m begun last is_over z → AllSized cs
      → is_calm_from last is_over cs ≡ true → names_rightly_from c begun is_over m cs ≡ true → Outcome (Rooms m begun is_over z cs) (calm_from c m cs) (plays z cs)

  -- a line after which all is at rest
  rest_then : (n : ℕ) → PlaysOn n → (x : NumberedCommand) (cs : List NumberedCommand) → length cs ≤ n → (m : Calm) (begun : List ℕ) (is_over : Bool) (z : Session)
      → (d : LineDone) → performs z x.command ≡ d → (m' : Calm) (begun' : List ℕ) (last' : Option ℕ) (is_over' : Bool) (k : Costs) (now : List Line)
      → Halts (Rooms m begun is_over z (x ∷ cs)) d ⊎ Stood (Between c m' begun' last' is_over') z k now d
      → (Covering c is_layout need → Covers (need m is_over (x ∷ cs)) k (need m' is_over' cs))
      → (length begun + begins_in (x ∷ cs) ≤ most_transactions → length begun' + begins_in cs ≤ most_transactions)
      → AllSized cs → is_calm_from last' is_over' cs ≡ true → names_rightly_from c begun' is_over' m' cs ≡ true
      → Outcome (Rooms m begun is_over z (x ∷ cs)) (now ++ calm_from c m' cs) (plays z (x ∷ cs))
  rest_then n rec x cs le m begun is_over z d is m' begun' last' is_over' k now (inl a) covers fewer sized calm right =
      line_then z x cs now (calm_from c m' cs) (Rooms m begun is_over z (x ∷ cs)) (Rooms m begun is_over z (x ∷ cs)) d is (inl a)
  rest_then n rec x cs le m begun is_over z d is m' begun' last' is_over' k now (inr a) covers fewer sized calm right =
      line_then z x cs now (calm_from c m' cs) (Rooms m begun is_over z (x ∷ cs)) (Rooms m' begun' is_over' d.after cs) d is
      (inr (
        a.halt,
        a.prints,
        (λ r. record { covering = r.covering; few = fewer r.few; room = room_then z d.after (need m is_over (x ∷ cs)) k (need m' is_over' cs) (covers r.covering) a.spent r.room }),
        rec cs le m' begun' last' is_over' d.after a.there sized calm right,
      ))

  -- a limit is met only where there is no room
  by_room : (m : Calm) (begun : List ℕ) (is_over : Bool) (z : Session) (cs : List NumberedCommand) (k l : Costs) (B : Session → Type 0) (now : List Line) (d : LineDone)
      → (Covering c is_layout need → Covers (need m is_over cs) k l) → Comes B z k now d → Halts (Rooms m begun is_over z cs) d ⊎ Stood B z k now d
  by_room m begun is_over z cs k l B now d covers (inl a) = inl (a.which, a.halt, λ r. a.room (room_now z (need m is_over cs) k l (covers r.covering) r.room))
  by_room m begun is_over z cs k l B now d covers (inr a) = inr a

  -- two lines, an event and its settle
  pair_then : (n : ℕ) → PlaysOn n → (x s : NumberedCommand) (cs : List NumberedCommand) → length cs ≤ n → (m : Calm) (begun : List ℕ) (is_over : Bool) (z : Session)
      → (d : LineDone) → performs z x.command ≡ d → s.command ≡ commands.Settle → (m' : Calm) (last' : Option ℕ) (is_over' : Bool) (k : Costs) (now : List Line)
      → PairComes (Between c m' begun last' is_over') z k now d (settles most_events 0 d.after)
      → (Covering c is_layout need → Covers (need m is_over (x ∷ s ∷ cs)) k (need m' is_over' cs))
      → AllSized cs → is_calm_from last' is_over' cs ≡ true → names_rightly_from c begun is_over' m' cs ≡ true
      → Outcome (Rooms m begun is_over z (x ∷ s ∷ cs)) (now ++ calm_from c m' cs) (plays z (x ∷ s ∷ cs))
  pair_then n rec x s cs le m begun is_over z d is settles_it m' last' is_over' k now (inl a) covers sized calm right =
      line_then z x (s ∷ cs) [] (now ++ calm_from c m' cs) (Rooms m begun is_over z (x ∷ s ∷ cs)) (Rooms m begun is_over z (x ∷ s ∷ cs)) d is
      (inl (a.which, a.halt, λ r. a.room (room_now z (need m is_over (x ∷ s ∷ cs)) k (need m' is_over' cs) (covers r.covering) r.room)))
  pair_then n rec x s cs le m begun is_over z d is settles_it m' last' is_over' k now (inr a) covers sized calm right =
      line_then z x (s ∷ cs) [] (now ++ calm_from c m' cs) (Rooms m begun is_over z (x ∷ s ∷ cs)) (Rooms m begun is_over z (x ∷ s ∷ cs)) d is
      (inr (
        a.0,
        a.1,
        (λ r. r),
        line_then d.after s cs now (calm_from c m' cs) (Rooms m begun is_over z (x ∷ s ∷ cs)) (Rooms m' begun is_over' (settles most_events 0 d.after).after cs) (settles most_events 0 d.after) (ap (performs d.after) settles_it)
            (⊎_elim
            (λ (l : LimitHit z k (settles most_events 0 d.after)). inl (l.which, l.halt, λ r. l.room (room_now z (need m is_over (x ∷ s ∷ cs)) k (need m' is_over' cs) (covers r.covering) r.room)))
            (λ (w : Stood (Between c m' begun last' is_over') z k now (settles most_events 0 d.after)). inr (
              w.halt,
              w.prints,
              (λ r. record {
                covering = r.covering;
                few = let f = r.few in let a1 = begins_fewer x (s ∷ cs) in let a2 = begins_fewer s cs in omega (arith, f, a1, a2);
                room = room_then z (settles most_events 0 d.after).after (need m is_over (x ∷ s ∷ cs)) k (need m' is_over' cs) (covers r.covering) w.spent r.room;
              }),
              rec cs le m' begun last' is_over' (settles most_events 0 d.after).after w.there sized calm right,
            )) a.2),
      ))

  -- what is left of a script behind a settle
  record Behind (begun : List ℕ) (m : Calm) (last : Option ℕ) (is_over : Bool) (cs : List NumberedCommand) : Type 0 where
    pub settle : NumberedCommand
    pub rest : List NumberedCommand
    pub is : cs ≡ settle ∷ rest
    pub settles : settle.command ≡ commands.Settle
    pub sized : AllSized rest
    pub calm : is_calm_from last is_over rest ≡ true
    pub right : names_rightly_from c begun is_over (with_due m m.touched 0) rest ≡ true
    pub lines : calm_from c m cs ≡ Settled m.due ∷ calm_from c (with_due m m.touched 0) rest

  behind : (begun : List ℕ) (m : Calm) (last : Option ℕ) (is_over : Bool) (cs : List NumberedCommand) → settles_next cs ≡ true → AllSized cs → is_calm_from last is_over cs ≡ true → names_rightly_from c begun is_over m cs ≡ true
      → Behind begun m last is_over cs
  behind begun m last is_over [] next sized calm right = absurd (cc)
  behind begun m last is_over (s ∷ cs) next sized calm right =
      let e = settle_of s.command next in
      let a = both_of (may_stand last is_over cs commands.Settle) (is_calm_from last is_over cs) (ap (λ (x : Command). may_stand last is_over cs x && is_calm_from (last_begun last x) (over_after is_over x) cs) (sym e) ∙ (sym (calm_cons last is_over s cs) ∙ calm)) in
      let b = both_of (names begun is_over m commands.Settle) (names_rightly_from c begun is_over (with_due m m.touched 0) cs)
      (ap (λ (x : Command). names begun is_over m x && names_rightly_from c (begun_after begun x) (over_after is_over x) (calm_after c m x) cs) (sym e) ∙ (sym (names_cons c begun is_over m s cs) ∙ right)) in
      record {
        settle = s;
        rest = cs;
        is = refl;
        settles = e;
        sized = sized.1;
        calm = a.1;
        right = b.1;
        lines = lines_cons c m s cs ∙ ap (λ (x : Command). calm_line m x ++ calm_from c (calm_after c m x) cs) e;
      }

  module _ (n : ℕ) (rec : PlaysOn n) (x : NumberedCommand) (cs : List NumberedCommand) (le : length cs ≤ n) (m : Calm) (begun : List ℕ) (last : Option ℕ) (z : Session) (sized : AllSized cs) where
    abbrev From : Bool → List Line → Type 0
    From is_over ls = Outcome (Rooms m begun is_over z (x ∷ cs)) ls (plays z (x ∷ cs))

    abbrev nothing : Costs
    nothing = costs 0 0 0 (text_bytes [])

    abbrev one_event : Costs
    one_event = costs 1 0 0 (text_bytes [])

    still_few : length begun + begins_in (x ∷ cs) ≤ most_transactions → length begun + begins_in cs ≤ most_transactions
    still_few f = let g = begins_fewer x cs in omega (arith, f, g)

    idle_case : (is_over : Bool) → Between c m begun last is_over z → performs z x.command ≡ idle z → is_calm_from last is_over cs ≡ true → names_rightly_from c begun is_over m cs ≡ true → From is_over (calm_from c m cs)
    idle_case is_over h is calm right =
        rest_then n rec x cs le m begun is_over z (idle z) is m begun last is_over nothing []
        (by_room m begun is_over z (x ∷ cs) nothing (need m is_over cs) (Between c m begun last is_over) [] (idle z) (λ v. v.idle m is_over x cs) (idle_line c m begun last is_over z h))
        (λ v. v.idle m is_over x cs) still_few sized calm right

    order_case : (is_over : Bool) → Between c m begun last is_over z → x.command ≡ commands.Order → is_calm_from last is_over cs ≡ true → names_rightly_from c begun is_over m cs ≡ true → From is_over (OrderLine m.committed ∷ calm_from c m cs)
    order_case is_over h e calm right =
        rest_then n rec x cs le m begun is_over z (performs z commands.Order) (ap (performs z) e) m begun last is_over (costs 0 0 0 (text_bytes (OrderLine m.committed ∷ []))) (OrderLine m.committed ∷ [])
        (by_room m begun is_over z (x ∷ cs) (costs 0 0 0 (text_bytes (OrderLine m.committed ∷ []))) (need m is_over cs) (Between c m begun last is_over) (OrderLine m.committed ∷ []) (performs z commands.Order)
        (λ v. v.order m begun last is_over z h x cs) (order_line c m begun last is_over z h))
        (λ v. v.order m begun last is_over z h x cs) still_few sized calm right

    settle_case : (is_over : Bool) → Between c m begun last is_over z → x.command ≡ commands.Settle → is_calm_from last is_over cs ≡ true → names_rightly_from c begun is_over (with_due m m.touched 0) cs ≡ true
        → From is_over (Settled m.due ∷ calm_from c (with_due m m.touched 0) cs)
    settle_case is_over h e calm right =
        let zero = due_zero c m begun last is_over z h in
        subst (λ (w : Calm). From is_over (Settled m.due ∷ calm_from c w cs)) (sym zero)
        (rest_then n rec x cs le m begun is_over z (performs z commands.Settle) (ap (performs z) e) m begun last is_over (costs 0 0 0 (text_bytes (Settled m.due ∷ []))) (Settled m.due ∷ [])
        (by_room m begun is_over z (x ∷ cs) (costs 0 0 0 (text_bytes (Settled m.due ∷ []))) (need m is_over cs) (Between c m begun last is_over) (Settled m.due ∷ []) (performs z commands.Settle)
        (λ v. v.settle m begun last is_over z h x cs) (settle_line c m begun last is_over z h))
        (λ v. v.settle m begun last is_over z h x cs) still_few sized calm (subst (λ (w : Calm). names_rightly_from c begun is_over w cs ≡ true) zero right))

    begin_case : (t : ℕ) → x.command ≡ commands.Begin t → (is_over : Bool) → is_over ≡ true → Between c m begun last is_over z → (In t begun → ⊥) → t ≤ 4294967295 → is_calm_from (Some t) false cs ≡ true → names_rightly_from c (t ∷ begun) false (begun_map m t) cs ≡ true
        → From is_over (calm_from c (begun_map m t) cs)
    begin_case t e false o h fresh low calm right = absurd (cc)
    begin_case t e true o h fresh low calm right =
        rest_then n rec x cs le m begun true z (performs z (commands.Begin t)) (ap (performs z) e) (begun_map m t) (t ∷ begun) (Some t) false one_event []
        (⊎_elim
        (λ a. inl (
          a.0,
          a.1,
          λ r. a.2 (let f = r.few in let g = begins_one x cs t e in omega (arith, f, g)) (room_now z (need m true (x ∷ cs)) one_event (need (begun_map m t) false cs) (r.covering.begin m t x cs e) r.room),
        ))
        (λ s. inr s) (begin_line c m begun last z h t fresh low))
        (λ v. v.begin m t x cs e) (λ f. let g = begins_one x cs t e in omega (arith, f, g)) sized calm right

    write_case : (t : ℕ) (k value : List ℕ) → (x.command ≡ commands.Write t k value) ⊎ ((x.command ≡ commands.Delete t k) × (value ≡ gone)) → performs z x.command ≡ by_event z (Write t k value) → length k ≤ 64 → length value ≤ 1024
        → (is_over : Bool) → is_over ≡ false → Between c m begun last is_over z → is_last last t ≡ true → has_room m.touched k ≡ true → is_calm_from last is_over cs ≡ true → names_rightly_from c begun is_over (after_write m k value) cs ≡ true
        → From is_over (calm_from c (after_write m k value) cs)
    write_case t k value e is short_key short_value true o h same room calm right = absurd (cc)
    write_case t k value e is short_key short_value false o h same room calm right =
        rest_then n rec x cs le m begun false z (by_event z (Write t k value)) is (after_write m k value) begun last false one_event []
        (by_room m begun false z (x ∷ cs) one_event (need (after_write m k value) false cs) (Between c (after_write m k value) begun last false) [] (by_event z (Write t k value))
        (λ v. v.write m begun last z h t k value x cs e) (write_line c m begun last z h k room value short_key short_value t same))
        (λ v. v.write m begun last z h t k value x cs e) still_few sized calm right

    again_case : (t : ℕ) (k : List ℕ) (y : Touched) → x.command ≡ commands.Read t k → length k ≤ 64 → touched_of m.touched k ≡ Some y → (is_over : Bool) → is_over ≡ false → Between c m begun last is_over z → is_last last t ≡ true
        → has_room m.touched k ≡ true → is_calm_from last is_over cs ≡ true → names_rightly_from c begun is_over (with_due m m.touched 0) cs ≡ true → From is_over (read_line m k (Some y) ∷ calm_from c (with_due m m.touched 0) cs)
    again_case t k y e short old true o h same room calm right = absurd (cc)
    again_case t k y e short old false o h same room calm right =
        rest_then n rec x cs le m begun false z (by_event z (Read t k)) (ap (performs z) e) (with_due m m.touched 0) begun last false (costs 1 0 0 (text_bytes (read_line m k (Some y) ∷ []))) (read_line m k (Some y) ∷ [])
        (by_room m begun false z (x ∷ cs) (costs 1 0 0 (text_bytes (read_line m k (Some y) ∷ []))) (need (with_due m m.touched 0) false cs) (Between c (with_due m m.touched 0) begun last false) (read_line m k (Some y) ∷ []) (by_event z (Read t k))
        (λ v. v.again m begun last z h k y old short x cs) (read_again c m begun last z h k room y old t same))
        (λ v. v.again m begun last z h k y old short x cs) still_few sized calm right

  -- a read of a new key, or a commit, with the settle behind it
  module _ (n : ℕ) (rec : PlaysOn n) (x s : NumberedCommand) (cs : List NumberedCommand) (le : length cs ≤ n) (m : Calm) (begun : List ℕ) (last : Option ℕ) (z : Session) (sized : AllSized cs) (settles_it : s.command ≡ commands.Settle) where
    fresh_case : (t : ℕ) (k : List ℕ) → x.command ≡ commands.Read t k → length k ≤ 64 → touched_of m.touched k ≡ None → (is_over : Bool) → is_over ≡ false → Between c m begun last is_over z → is_last last t ≡ true
        → has_room m.touched k ≡ true → is_calm_from last is_over cs ≡ true
        → names_rightly_from c begun is_over (with_due m (touched_set m.touched (record { key = k; is_read = true; write = None })) 0) cs ≡ true
        → Outcome (Rooms m begun is_over z (x ∷ s ∷ cs)) (row_line m k ∷ Settled (read_deliveries c) ∷ calm_from c (with_due m (touched_set m.touched (record { key = k; is_read = true; write = None })) 0) cs) (plays z (x ∷ s ∷ cs))
    fresh_case t k e short new true o h same room calm right = absurd (cc)
    fresh_case t k e short new false o h same room calm right =
        pair_then n rec x s cs le m begun false z (by_event z (Read t k)) (ap (performs z) e) settles_it (with_due m (touched_set m.touched (record { key = k; is_read = true; write = None })) 0) last false
        (read_costs c is_layout m begun last z h k room short new) (row_line m k ∷ Settled (read_deliveries c) ∷ [])
        (fresh_line c is_layout m begun last z h k room short new t same) (λ v. v.read m begun last z h k room short new t x s cs e) sized calm right

    commit_case : (t : ℕ) → x.command ≡ commands.Commit t → (is_over : Bool) → is_over ≡ false → Between c m begun last is_over z → is_last last t ≡ true → is_calm_from last true cs ≡ true → names_rightly_from c begun true (committed_map m) cs ≡ true
        → Outcome (Rooms m begun is_over z (x ∷ s ∷ cs)) (Learned m.tx Committed ∷ Settled (commit_deliveries c m.touched) ∷ calm_from c (committed_map m) cs) (plays z (x ∷ s ∷ cs))
    commit_case t e true o h same calm right = absurd (cc)
    commit_case t e false o h same calm right =
        let is : performs z x.command ≡ by_event z (Commit m.tx) = ap (performs z) e ∙ ap (λ (u : ℕ). by_event z (Commit u)) (sym (same_tx m begun last t h.sane same)) in
        pair_then n rec x s cs le m begun false z (by_event z (Commit m.tx)) is settles_it (committed_map m) last true
        (commit_costs c is_layout m begun last z h) (Learned m.tx Committed ∷ Settled (commit_deliveries c m.touched) ∷ [])
        (commit_line c is_layout m begun last z h).comes (λ v. v.commit m begun last z h x s cs) sized calm right

  module _ (n : ℕ) (rec : PlaysOn n) (x : NumberedCommand) (cs : List NumberedCommand) (le : length cs ≤ n) (m : Calm) (begun : List ℕ) (last : Option ℕ) (is_over : Bool) (z : Session) (h : Between c m begun last is_over z) (sized : AllSized cs) where
    abbrev Plays : List Line → Type 0
    Plays ls = Outcome (Rooms m begun is_over z (x ∷ cs)) ls (plays z (x ∷ cs))

    read_case : (t : ℕ) (k : List ℕ) → x.command ≡ commands.Read t k → length k ≤ 64 → is_over ≡ false → is_last last t ≡ true → settles_next cs ≡ true → has_room m.touched k ≡ true → is_calm_from last is_over cs ≡ true
        → (y : Option Touched) → touched_of m.touched k ≡ y
        → names_rightly_from c begun is_over (maybe y (with_due m (touched_set m.touched (record { key = k; is_read = true; write = None })) (read_deliveries c)) (λ x. with_due m m.touched 0)) cs ≡ true
        → Plays (read_line m k y ∷ calm_from c (maybe y (with_due m (touched_set m.touched (record { key = k; is_read = true; write = None })) (read_deliveries c)) (λ x. with_due m m.touched 0)) cs)
    read_case t k e short o same next room calm (Some y) old right = again_case n rec x cs le m begun last z sized t k y e short old is_over o h same room calm right
    read_case t k e short o same next room calm None new right =
        let then_map = with_due m (touched_set m.touched (record { key = k; is_read = true; write = None })) (read_deliveries c) in
        let b = behind begun then_map last is_over cs next sized calm right in
        let low : length b.rest ≤ n = let l = ap length b.is in omega (arith, l, le) in
        subst (λ (ls : List Line). Plays (row_line m k ∷ ls)) (sym b.lines)
        (subst (λ (xs : List NumberedCommand). Outcome (Rooms m begun is_over z (x ∷ xs)) (row_line m k ∷ Settled (read_deliveries c) ∷ calm_from c (with_due m (touched_set m.touched (record { key = k; is_read = true; write = None })) 0) b.rest) (plays z (x ∷ xs))) (sym b.is)
        (fresh_case n rec x b.settle b.rest low m begun last z b.sized b.settles t k e short new is_over o h same room b.calm b.right))

    whole_commit : (t : ℕ) → x.command ≡ commands.Commit t → is_over ≡ false → is_last last t ≡ true → settles_next cs ≡ true → is_calm_from last true cs ≡ true → names_rightly_from c begun true (after_commit c m) cs ≡ true
        → Plays (Learned m.tx Committed ∷ calm_from c (after_commit c m) cs)
    whole_commit t e o same next calm right =
        let b = behind begun (after_commit c m) last true cs next sized calm right in
        let low : length b.rest ≤ n = let l = ap length b.is in omega (arith, l, le) in
        subst (λ (ls : List Line). Plays (Learned m.tx Committed ∷ ls)) (sym b.lines)
        (subst (λ (xs : List NumberedCommand). Outcome (Rooms m begun is_over z (x ∷ xs)) (Learned m.tx Committed ∷ Settled (commit_deliveries c m.touched) ∷ calm_from c (committed_map m) b.rest) (plays z (x ∷ xs))) (sym b.is)
        (commit_case n rec x b.settle b.rest low m begun last z b.sized b.settles t e is_over o h same b.calm b.right))

    by_command : (cmd : Command) → x.command ≡ cmd → Sized cmd → may_stand last is_over cs cmd ≡ true → is_calm_from (last_begun last cmd) (over_after is_over cmd) cs ≡ true → names begun is_over m cmd ≡ true
        → names_rightly_from c (begun_after begun cmd) (over_after is_over cmd) (calm_after c m cmd) cs ≡ true → Plays (calm_line m cmd ++ calm_from c (calm_after c m cmd) cs)
    by_command (commands.World dcs shards weights) e size stand calm name right = idle_case n rec x cs le m begun last z sized is_over h (ap (performs z) e) calm right
    by_command (commands.Split k) e size stand calm name right = idle_case n rec x cs le m begun last z sized is_over h (ap (performs z) e) calm right
    by_command (commands.Begin t) e size stand calm name right = begin_case n rec x cs le m begun last z sized t e is_over stand h (fresh_of begun t (not_true _ name)) size.1 calm right
    by_command (commands.Read t k) e size stand calm name right =
        let a = both_of (is_last last t) (settles_next cs) stand in
        let b = both_of (not is_over) (has_room m.touched k) name in
        read_case t k e size (not_true is_over b.0) a.0 a.1 b.1 calm (touched_of m.touched k) refl right
    by_command (commands.Write t k value) e size stand calm name right =
        let b = both_of (not is_over) (has_room m.touched k) name in
        write_case n rec x cs le m begun last z sized t k value (inl e) (ap (performs z) e) size.0 size.1 is_over (not_true is_over b.0) h stand b.1 calm right
    by_command (commands.Delete t k) e size stand calm name right =
        let b = both_of (not is_over) (has_room m.touched k) name in
        write_case n rec x cs le m begun last z sized t k gone (inr (e, refl)) (ap (performs z) e) size (omega arith) is_over (not_true is_over b.0) h stand b.1 calm right
    by_command (commands.Commit t) e size stand calm name right =
        let a = both_of (is_last last t) (settles_next cs) stand in
        whole_commit t e (not_true is_over name) a.0 a.1 calm right
    by_command commands.Settle e size stand calm name right = settle_case n rec x cs le m begun last z sized is_over h e calm right
    by_command commands.Order e size stand calm name right = order_case n rec x cs le m begun last z sized is_over h e calm right
    by_command _ e size stand calm name right = absurd (cc)

  one_more : (n : ℕ) → PlaysOn n → PlaysOn (suc n)
  one_more n rec [] le m begun last is_over z h sized calm right = inr (record { ending = ap (λ (p : Played). p.ending) (plays_nil z); text = ap (λ (p : Played). flat_map (λ (x : List ℕ). x) p.texts) (plays_nil z) ∙ ap (flat_map line_text) (sym (lines_nil c m)) })
  one_more n rec (x ∷ cs) le m begun last is_over z h sized calm right =
      let a = both_of (may_stand last is_over cs x.command) (is_calm_from (last_begun last x.command) (over_after is_over x.command) cs) (sym (calm_cons last is_over x cs) ∙ calm) in
      let b = both_of (names begun is_over m x.command) (names_rightly_from c (begun_after begun x.command) (over_after is_over x.command) (calm_after c m x.command) cs) (sym (names_cons c begun is_over m x cs) ∙ right) in
      subst (λ (ls : List Line). Outcome (Rooms m begun is_over z (x ∷ cs)) ls (plays z (x ∷ cs))) (sym (lines_cons c m x cs))
      (by_command n rec x cs (omega (arith, le)) m begun last is_over z h sized.1 x.command refl sized.0 a.0 a.1 b.0 b.1)

  pub plays_on : (n : ℕ) → PlaysOn n
  plays_on zero [] le m begun last is_over z h sized calm right = inr (record { ending = ap (λ (p : Played). p.ending) (plays_nil z); text = ap (λ (p : Played). flat_map (λ (x : List ℕ). x) p.texts) (plays_nil z) ∙ ap (flat_map line_text) (sym (lines_nil c m)) })
  plays_on zero (x ∷ cs) le m begun last is_over z h sized calm right = absurd (omega (arith, le))
  plays_on (suc n) cs le m begun last is_over z h sized calm right = one_more n (plays_on n) cs le m begun last is_over z h sized calm right
