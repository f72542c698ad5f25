-- What comes of a script, line after line: it stops at a limit, or it has written its lines.
use Rattle.std.proofs.Common.{◌≡◌, ℕ, suc, ◌+◌, ◌≤◌, List, [], ◌∷◌, ◌++◌, refl, sym, ap, ◌∙◌, subst, arith, Bool, true, false, cond, Option, Some, None, ◌⊎◌, inl, inr, ⊎_elim}
use Rattle.std.specs.Prelude.{length, filter}
use Rattle.std.specs.List.{flat_map}
use Rattle.std.proofs.lemmas.List.{append-nil}
use Rattle.std.proofs.lemmas.Grind.{flat_map-append}
use Rattle.rc_ids.specs.Tables.{maybe}
use Rattle.rc_report.specs.declared.fault.Which.{Which}
use Rattle.rc_report.specs.declared.line.Line.{Line}
use Rattle.rc_report.specs.Lines.{line_text}
use Rattle.rc_script.specs.declared.command.Command.{Command}
use Rattle.rc_script.specs.declared.command.Command.TheVariants as commands
use Rattle.rc_script.specs.declared.script.NumberedCommand.{NumberedCommand}
use Rattle.rc_runs.specs.Session.{Session, Halt, Limited}
use Rattle.rc_runs.specs.Script.{LineDone, performs}
use Rattle.rc_runs.specs.Text.{Played, Done, LimitMet, plays, all_done, then_played, halted, piece_of}
use Rattle.rc_claims.specs.CalmScripts.{is_begin}
use Rattle.rc_calm.proofs.Costs.{Costs, RoomFor, Spends}

-- WHAT COMES OF A SCRIPT: it stops at a limit, where there is no such room, or it has written these lines
pub record Stops (R : Type 0) (p : Played) : Type 0 where
  pub ending : p.ending ≡ LimitMet
  pub room : R → ⊥

pub record Written (ls : List Line) (p : Played) : Type 0 where
  pub ending : p.ending ≡ Done
  pub text : flat_map (λ (x : List ℕ). x) p.texts ≡ flat_map line_text ls

abbrev pub Outcome : Type 0 → List Line → Played → Type 0
Outcome R ls p = Stops R p ⊎ Written ls p

pieces_flat : (ls : List Line) → flat_map (λ (x : List ℕ). x) (piece_of ls) ≡ flat_map line_text ls
pieces_flat [] = refl
pieces_flat (l ∷ ls) = append-nil (flat_map line_text (l ∷ ls))

pub plays_nil : (z : Session) → plays z [] ≡ all_done
unfolding plays
plays_nil z = refl

abbrev from_line : NumberedCommand → List NumberedCommand → LineDone → Played
from_line x cs d = maybe d.halt (then_played d.lines (plays d.after cs)) (λ halt. halted x.number d.lines halt)

plays_cons : (z : Session) (x : NumberedCommand) (cs : List NumberedCommand) → plays z (x ∷ cs) ≡ from_line x cs (performs z x.command)
unfolding plays
plays_cons z x cs = refl

-- after a line
abbrev pub Halts : Type 0 → LineDone → Type 0
Halts R d = (which : Which) × (d.halt ≡ Some (Limited which)) × (R → ⊥)

then_written : (now rest : List Line) (p : Played) → Written rest p → Written (now ++ rest) (then_played now p)
then_written now rest p w = record {
  ending = w.ending;
  text = flat_map-append (λ (x : List ℕ). x) (piece_of now) p.texts
      ∙ (ap (λ (t : List ℕ). t ++ flat_map (λ (x : List ℕ). x) p.texts) (pieces_flat now)
      ∙ (ap (λ (t : List ℕ). flat_map line_text now ++ t) w.text ∙ sym (flat_map-append line_text now rest)));
}

pub line_then : (z : Session) (x : NumberedCommand) (cs : List NumberedCommand) (now rest : List Line) (R R' : Type 0) (d : LineDone) → performs z x.command ≡ d
    → Halts R d ⊎ ((d.halt ≡ None) × (d.lines ≡ now) × (R → R') × Outcome R' rest (plays d.after cs)) → Outcome R (now ++ rest) (plays z (x ∷ cs))
line_then z x cs now rest R R' d is h = subst (Outcome R (now ++ rest)) (sym (plays_cons z x cs ∙ ap (from_line x cs) is)) (⊎_elim stops goes h)
  where
    stops : Halts R d → Outcome R (now ++ rest) (from_line x cs d)
    stops a = inl (record { ending = ap (λ (o : Option Halt). (maybe o (then_played d.lines (plays d.after cs)) (λ halt. halted x.number d.lines halt)).ending) a.1; room = a.2 })

    goes : (d.halt ≡ None) × (d.lines ≡ now) × (R → R') × Outcome R' rest (plays d.after cs) → Outcome R (now ++ rest) (from_line x cs d)
    goes a =
        subst (λ (o : Option Halt). Outcome R (now ++ rest) (maybe o (then_played d.lines (plays d.after cs)) (λ halt. halted x.number d.lines halt))) (sym a.0)
        (subst (λ (ls : List Line). Outcome R (now ++ rest) (then_played ls (plays d.after cs))) (sym a.1)
        (⊎_elim (λ (s : Stops R' (plays d.after cs)). inl (record { ending = s.ending; room = λ r. s.room (a.2 r) })) (λ (w : Written rest (plays d.after cs)). inr (then_written now rest (plays d.after cs) w)) a.3))

-- COSTS
pub record Covers (n k l : Costs) : Type 0 where
  pub events : k.events + l.events ≤ n.events
  pub messages : k.messages + l.messages ≤ n.messages
  pub bytes : k.bytes + l.bytes ≤ n.bytes
  pub text : k.text + l.text ≤ n.text

pub room_now : (z : Session) (n k l : Costs) → Covers n k l → RoomFor z n → RoomFor z k
room_now z n k l h r = record {
  events = let a = h.events in let b = r.events in omega (arith, a, b);
  messages = let a = h.messages in let b = r.messages in omega (arith, a, b);
  bytes = let a = h.bytes in let b = r.bytes in omega (arith, a, b);
  text = let a = h.text in let b = r.text in omega (arith, a, b);
}

pub room_then : (z y : Session) (n k l : Costs) → Covers n k l → Spends z y k → RoomFor z n → RoomFor y l
room_then z y n k l h s r = record {
  events = let a = h.events in let b = r.events in let c = s.events in omega (arith, a, b, c);
  messages = let a = h.messages in let b = r.messages in let c = s.messages in omega (arith, a, b, c);
  bytes = let a = h.bytes in let b = r.bytes in let c = s.bytes in omega (arith, a, b, c);
  text = let a = h.text in let b = r.text in let c = s.text in omega (arith, a, b, c);
}

abbrev pub begins_in : List NumberedCommand → ℕ
begins_in cs = length (filter is_begin cs)

pub begins_fewer : (x : NumberedCommand) (cs : List NumberedCommand) → begins_in cs ≤ begins_in (x ∷ cs)
begins_fewer x cs = go (is_begin x)
  where
    go : (v : Bool) → length (filter is_begin cs) ≤ length (cond v (x ∷ filter is_begin cs) (filter is_begin cs))
    go true = omega arith
    go false = omega arith

pub begins_one : (x : NumberedCommand) (cs : List NumberedCommand) (t : ℕ) → x.command ≡ commands.Begin t → begins_in (x ∷ cs) ≡ suc (begins_in cs)
begins_one x cs t e = ap (λ (c : Command). length (cond (is_begin (record { number = x.number; command = c })) (x ∷ filter is_begin cs) (filter is_begin cs))) e
