-- What a sink took, piece by piece, and what is ahead of it.
use Rattle.std.proofs.Common.{◌≡◌, ℕ, suc, ◌+◌, ◌<◌, ◌≤◌, List, [], ◌∷◌, ◌++◌, length, get_or, take, drop, Option, None, Some, refl, sym, ap, ◌∙◌, subst, arith, append_assoc, append-nil, add-one, drop-cons, length-append}
use Rattle.std.proofs.lemmas.List.{take-append-le}
use Rattle.std.proofs.lemmas.List.Folds.{concat-append}
use Rattle.std.proofs.lemmas.Option.{same_Some}
use Rattle.std.proofs.Math.ListN.{drop_of_length-le}
use Rattle.std.proofs.Math.Seq.{take-append-add}
use Rattle.std.specs.Prelude.{Ok, Err}
use Rattle.std.specs.List.{concat}
use Rattle.rc_ids.specs.Tables.{maybe}
use Rattle.rc_ports.specs.declared.status.Status.{Status}
use Rattle.rc_ports.specs.declared.status.Status.TheVariants as statuses
use Rattle.rc_ports.specs.Streams.{grown}
use Rattle.rc_report.specs.declared.line.Line.{Line}
use Rattle.rc_script.specs.declared.script.NumberedCommand.{NumberedCommand}
use Rattle.rc_runs.specs.Session.{Session, Halt}
use Rattle.rc_runs.specs.Script.{LineDone, performs}
use Rattle.rc_runs.specs.Text.{Played, piece_of, ending_of, last_lines, halted, then_played, all_done, plays}
use Rattle.rc_player.specs.declared.stop.Stop.{Stop}
use Rattle.rc_player.specs.declared.stop.Stop.TheVariants.{Failed, NoMemory}
use Rattle.rc_player.specs.Play.{status_of, TookFront}
use Rattle.rc_player.specs.Written.{TookAtStop, Wrote, lines_of, line_texts, end_in}

-- ---- bytes

pub grown-nothing : (x : Option (List ℕ)) → x ≡ grown [] x
grown-nothing None = refl
grown-nothing (Some x) = ap Some (sym (append-nil x))

grown-grown : (a b : List ℕ) (x : Option (List ℕ)) → grown b (grown a x) ≡ grown (a ++ b) x
grown-grown a b None = refl
grown-grown a b (Some x) = ap Some (append_assoc x a b)

-- first bytes of a piece in the middle
front_of : (before first more : List ℕ) (n : ℕ) → n ≤ length first → take (length before + n) (before ++ (first ++ more)) ≡ before ++ take n first
front_of before first more n short = take-append-add before (first ++ more) n ∙ ap (λ (l : List ℕ). before ++ l) (take-append-le n first more short)

size_of : (before first more : List ℕ) → length (before ++ (first ++ more)) ≡ length before + (length first + length more)
size_of before first more = length-append before (first ++ more) ∙ ap (λ (k : ℕ). length before + k) (length-append first more)

front_taken : (before first more : List ℕ) (n : ℕ) (a b c : Option (List ℕ)) → n ≤ length first → b ≡ grown before a → c ≡ grown (take n first) b
    → c ≡ grown (take (length before + n) (before ++ (first ++ more))) a
front_taken before first more n a b c short so_far next =
    next ∙ ap (grown (take n first)) so_far ∙ grown-grown before (take n first) a ∙ ap (λ (l : List ℕ). grown l a) (sym (front_of before first more n short))

-- after bytes that were taken a piece was not taken whole
stopped : (whole before first more : List ℕ) (e : Stop) (a b c : Option (List ℕ)) → whole ≡ before ++ (first ++ more) → b ≡ grown before a
    → TookAtStop e first b c → TookAtStop e whole a c
stopped whole before first more Failed a b c is so_far part =
    let all : length whole ≡ length before + (length first + length more) = ap length is ∙ size_of before first more in
    let short : part.0 ≤ length first = omega (arith, part.1) in
    let inside : length before + part.0 < length whole = omega (arith, part.1) in
    (length before + part.0, inside, subst (λ (l : List ℕ). c ≡ grown (take (length before + part.0) l) a) (sym is) (front_taken before first more part.0 a b c short so_far part.2))
stopped whole before first more NoMemory a b c is so_far part =
    let all : length whole ≡ length before + (length first + length more) = ap length is ∙ size_of before first more in
    let inside : length before + part.0 ≤ length whole = omega (arith, part.1) in
    (length before + part.0, inside, subst (λ (l : List ℕ). c ≡ grown (take (length before + part.0) l) a) (sym is) (front_taken before first more part.0 a b c part.1 so_far part.2))

-- without memory nothing more is taken
pub nothing_taken : (text : List ℕ) (a : Option (List ℕ)) → TookFront text a a
nothing_taken text a = (0, omega arith, grown-nothing a)

-- ---- lines

pub piece_text : (lines : List Line) → concat (piece_of lines) ≡ line_texts lines
piece_text [] = refl
piece_text (line ∷ lines) = append-nil (line_texts (line ∷ lines))

-- what a line gives, and what comes behind it
abbrev line_played : ℕ → LineDone → (Session → Played) → Played
line_played number done rest = maybe done.halt (then_played done.lines (rest done.after)) (λ halt. halted number done.lines halt)

plays-none : (z : Session) → plays z [] ≡ all_done
unfolding plays
plays-none z = refl

plays-more : (z : Session) (c : NumberedCommand) (cs : List NumberedCommand) → plays z (c ∷ cs) ≡ line_played c.number (performs z c.command) (λ after. plays after cs)
unfolding plays
plays-more z c cs = refl

goes_text : (number : ℕ) (after : Session) (lines : List Line) (halt : Option Halt) (rest : Session → Played) → maybe halt None (λ h. Some (status_of (ending_of h))) ≡ None
    → concat (maybe halt (then_played lines (rest after)) (λ h. halted number lines h)).texts ≡ line_texts (maybe halt lines (last_lines number lines)) ++ concat (rest after).texts
goes_text number after lines None rest none = concat-append (piece_of lines) (rest after).texts ∙ ap (λ (l : List ℕ). l ++ concat (rest after).texts) (piece_text lines)
goes_text number after lines (Some h) rest none = absurd (cc)

goes_ending : (number : ℕ) (after : Session) (lines : List Line) (halt : Option Halt) (rest : Session → Played) → maybe halt None (λ h. Some (status_of (ending_of h))) ≡ None
    → (maybe halt (then_played lines (rest after)) (λ h. halted number lines h)).ending ≡ (rest after).ending
goes_ending number after lines None rest none = refl
goes_ending number after lines (Some h) rest none = absurd (cc)

ends_text : (number : ℕ) (after : Session) (lines : List Line) (halt : Option Halt) (rest : Session → Played) (status : Status) → maybe halt None (λ h. Some (status_of (ending_of h))) ≡ Some status
    → concat (maybe halt (then_played lines (rest after)) (λ h. halted number lines h)).texts ≡ line_texts (maybe halt lines (last_lines number lines))
ends_text number after lines None rest status some = absurd (cc)
ends_text number after lines (Some h) rest status some = piece_text (last_lines number lines h)

ends_ending : (number : ℕ) (after : Session) (lines : List Line) (halt : Option Halt) (rest : Session → Played) (status : Status) → maybe halt None (λ h. Some (status_of (ending_of h))) ≡ Some status
    → status ≡ status_of (maybe halt (then_played lines (rest after)) (λ h. halted number lines h)).ending
ends_ending number after lines None rest status some = absurd (cc)
ends_ending number after lines (Some h) rest status some = sym (same_Some _ _ some)

-- whether or not the line ends the script
begins_text : (number : ℕ) (after : Session) (lines : List Line) (halt : Option Halt) (rest : Session → Played)
    → (more : List ℕ) × (concat (maybe halt (then_played lines (rest after)) (λ h. halted number lines h)).texts ≡ line_texts (maybe halt lines (last_lines number lines)) ++ more)
begins_text number after lines None rest = (concat (rest after).texts, goes_text number after lines None rest refl)
begins_text number after lines (Some h) rest = ([], piece_text (last_lines number lines h) ∙ sym (append-nil (line_texts (last_lines number lines h))))

-- ---- ahead

-- the sink took the text of all but the rest
pub record Ahead (all rest : Played) (start now : Option (List ℕ)) : Type 0 where
  pub before : List ℕ
  pub text : concat all.texts ≡ before ++ concat rest.texts
  pub ending : all.ending ≡ rest.ending
  pub taken : now ≡ grown before start

pub ahead_first : (all : Played) (a : Option (List ℕ)) → Ahead all all a a
ahead_first all a = record { before = []; text = refl; ending = refl; taken = grown-nothing a }

rest_at : (cs : List NumberedCommand) (i : ℕ) (c : NumberedCommand) → i < length cs → c ≡ get_or cs i c → drop i cs ≡ c ∷ drop (i + 1) cs
rest_at cs i c within is = rw add-one (drop-cons cs i c within ∙ ap (λ (y : NumberedCommand). y ∷ drop (suc i) cs) (sym is))

-- what is ahead, from a line on
from_line : (all : Played) (z : Session) (cs : List NumberedCommand) (i : ℕ) (c : NumberedCommand) (a b : Option (List ℕ)) → i < length cs → c ≡ get_or cs i c
    → Ahead all (plays z (drop i cs)) a b → Ahead all (line_played c.number (performs z c.command) (λ after. plays after (drop (i + 1) cs))) a b
from_line all z cs i c a b within is ahead =
    subst (λ (rest : Played). Ahead all rest a b) (ap (plays z) (rest_at cs i c within is) ∙ plays-more z c (drop (i + 1) cs)) ahead

-- over any line
stops : (all : Played) (number : ℕ) (done : LineDone) (rest : Session → Played) (e : Stop) (a b d : Option (List ℕ)) → Ahead all (line_played number done rest) a b
    → TookAtStop e (line_texts (lines_of number done)) b d → Wrote all (Err e) a d
stops all number done rest e a b d ahead took =
    let first = begins_text number done.after done.lines done.halt rest in
    record {
      text = stopped (concat all.texts) ahead.before (line_texts (lines_of number done)) first.0 e a b d (ahead.text ∙ ap (λ (l : List ℕ). ahead.before ++ l) first.1) ahead.taken took;
      ending = tt;
    }

ends : (all : Played) (number : ℕ) (done : LineDone) (rest : Session → Played) (status : Status) (a b d : Option (List ℕ)) → Ahead all (line_played number done rest) a b
    → Some status ≡ end_in done → d ≡ grown (line_texts (lines_of number done)) b → Wrote all (Ok status) a d
ends all number done rest status a b d ahead some took =
    let text : concat all.texts ≡ ahead.before ++ line_texts (lines_of number done) = ahead.text ∙ ap (λ (l : List ℕ). ahead.before ++ l) (ends_text number done.after done.lines done.halt rest status (sym some)) in
    record {
      text = took ∙ ap (grown (line_texts (lines_of number done))) ahead.taken ∙ grown-grown ahead.before (line_texts (lines_of number done)) a ∙ ap (λ (l : List ℕ). grown l a) (sym text);
      ending = ends_ending number done.after done.lines done.halt rest status (sym some) ∙ ap status_of (sym ahead.ending);
    }

goes : (all : Played) (number : ℕ) (done : LineDone) (rest : Session → Played) (y : Session) (a b d : Option (List ℕ)) → Ahead all (line_played number done rest) a b
    → None ≡ end_in done → y ≡ done.after → d ≡ grown (line_texts (lines_of number done)) b → Ahead all (rest y) a d
goes all number done rest y a b d ahead none after took =
    subst (λ (x : Session). Ahead all (rest x) a d) (sym after) (record {
      before = ahead.before ++ line_texts (lines_of number done);
      text = ahead.text ∙ ap (λ (l : List ℕ). ahead.before ++ l) (goes_text number done.after done.lines done.halt rest (sym none))
          ∙ sym (append_assoc ahead.before (line_texts (lines_of number done)) (concat (rest done.after).texts));
      ending = ahead.ending ∙ goes_ending number done.after done.lines done.halt rest (sym none);
      taken = took ∙ ap (grown (line_texts (lines_of number done))) ahead.taken ∙ grown-grown ahead.before (line_texts (lines_of number done)) a;
    })

-- the line was not written whole
pub line_stops : (all : Played) (z : Session) (cs : List NumberedCommand) (i : ℕ) (c : NumberedCommand) (e : Stop) (a b d : Option (List ℕ)) → i < length cs → c ≡ get_or cs i c
    → Ahead all (plays z (drop i cs)) a b → TookAtStop e (line_texts (lines_of c.number (performs z c.command))) b d → Wrote all (Err e) a d
line_stops all z cs i c e a b d within is ahead took =
    stops all c.number (performs z c.command) (λ after. plays after (drop (i + 1) cs)) e a b d (from_line all z cs i c a b within is ahead) took

-- the line ended the script
pub line_ends : (all : Played) (z : Session) (cs : List NumberedCommand) (i : ℕ) (c : NumberedCommand) (status : Status) (a b d : Option (List ℕ)) → i < length cs → c ≡ get_or cs i c
    → Ahead all (plays z (drop i cs)) a b → Some status ≡ end_in (performs z c.command) → d ≡ grown (line_texts (lines_of c.number (performs z c.command))) b → Wrote all (Ok status) a d
line_ends all z cs i c status a b d within is ahead some took =
    ends all c.number (performs z c.command) (λ after. plays after (drop (i + 1) cs)) status a b d (from_line all z cs i c a b within is ahead) some took

-- the line is done, and the script goes on
pub line_goes : (all : Played) (z : Session) (cs : List NumberedCommand) (i : ℕ) (c : NumberedCommand) (y : Session) (a b d : Option (List ℕ)) → i < length cs → c ≡ get_or cs i c
    → Ahead all (plays z (drop i cs)) a b → None ≡ end_in (performs z c.command) → y ≡ (performs z c.command).after → d ≡ grown (line_texts (lines_of c.number (performs z c.command))) b
    → Ahead all (plays y (drop (i + 1) cs)) a d
line_goes all z cs i c y a b d within is ahead none after took =
    goes all c.number (performs z c.command) (λ after. plays after (drop (i + 1) cs)) y a b d (from_line all z cs i c a b within is ahead) none after took

-- all lines are done
pub lines_end : (all : Played) (z : Session) (cs : List NumberedCommand) (i : ℕ) (a b : Option (List ℕ)) → length cs ≤ i → Ahead all (plays z (drop i cs)) a b → Wrote all (Ok statuses.Done) a b
lines_end all z cs i a b past ahead =
    let end : plays z (drop i cs) ≡ all_done = ap (plays z) (drop_of_length-le cs past) ∙ plays-none z in
    let text : concat all.texts ≡ ahead.before = ahead.text ∙ ap (λ (p : Played). ahead.before ++ concat p.texts) end ∙ append-nil ahead.before in
    record {
      text = ahead.taken ∙ ap (λ (l : List ℕ). grown l a) (sym text);
      ending = ap status_of (sym (ahead.ending ∙ ap (λ (p : Played). p.ending) end));
    }
