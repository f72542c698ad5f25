-- What the loops keep: a map whose versions are those at hand, and what is left has the answer of the whole.
use Rattle.std.proofs.Common.{◌≡◌, ◌==◌, ℕ, suc, ◌+◌, Bool, true, false, if◌then◌else◌, List, [], ◌∷◌, Option, Some, None, drop, slice_get, sym, ap, ◌∙◌, add-one}
use Rattle.rc_ids.specs.Tables.{Table, put, maybe}
use Rattle.rc_ids.specs.Texts.{key_cmp}
use Rattle.rc_body.specs.Rows.{Row}
use Rattle.rc_body.specs.declared.entry.Entry.{Entry}
use Rattle.rc_serial.specs.OneMap.{Map, FirstWrong, body_applied, wrong_entry, first_wrong}
use Rattle.rc_serial.specs.Orders.{with_rows}
use Rattle.rc_serial.specs.Versions.{versions_of, version_in, body_raised}
use Rattle.rc_serial.proofs.Rest.{rest_at}
use Rattle.rc_serial.proofs.VersionFacts.{versions-put, version-shown, body-shown}

-- the versions of rows so far
pub record Fills (all : List Row) (t : Table (List ℕ) ℕ) (rest : List Row) : Type 0 where
  pub now : Map
  pub shown : versions_of now ≡ t
  pub same : with_rows now rest ≡ with_rows [] all

pub fills_next : (all : List Row) (t next : Table (List ℕ) ℕ) (k : List ℕ) (v : ℕ) (x : List ℕ) (rest : List Row)
    → Fills all t ((k, (v, x)) ∷ rest) → next ≡ put key_cmp t k v → Fills all next rest
fills_next all t next k v x rest f is = record {
  now = put key_cmp f.now k (v, x);
  shown = versions-put f.now k v x ∙ ap (λ (u : Table (List ℕ) ℕ). put key_cmp u k v) f.shown ∙ sym is;
  same = f.same;
}

pub fills_end : (all : List Row) (t : Table (List ℕ) ℕ) → Fills all t [] → t ≡ versions_of (with_rows [] all)
fills_end all t f = sym f.shown ∙ ap versions_of f.same

-- what is said of a wrong entry
abbrev pub said : ℕ → List ℕ → ℕ → ℕ → FirstWrong
said place k expected read = record { place = place; key = k; expected = expected; read = read }

-- the entry at a place is the first wrong one
pub wrong_here : (m : Map) (place : ℕ) (es : List Entry) (i : ℕ) (e : Entry) (v : ℕ) → slice_get es i ≡ Some e
    → wrong_entry m place (drop i es) ≡ wrong_entry m place es → v ≡ version_in (versions_of m) e.key → (e.version == v) ≡ false
    → Some (said place e.key v e.version) ≡ wrong_entry m place es
wrong_here m place es i e v at same is differs =
    let rest = wrong_entry m place (drop (i + 1) es) in
    sym (ap (λ (b : Bool). if b then rest else Some (said place e.key v e.version)) differs)
    ∙ ap (λ (u : ℕ). if e.version == u then rest else Some (said place e.key u e.version)) (is ∙ version-shown m e.key)
    ∙ sym (ap (wrong_entry m place) (rest_at es i e at))
    ∙ same

-- it is not
pub wrong_later : (m : Map) (place : ℕ) (es : List Entry) (i : ℕ) (e : Entry) (v : ℕ) → slice_get es i ≡ Some e
    → wrong_entry m place (drop i es) ≡ wrong_entry m place es → v ≡ version_in (versions_of m) e.key → (e.version == v) ≡ true
    → wrong_entry m place (drop (i + 1) es) ≡ wrong_entry m place es
wrong_later m place es i e v at same is agrees =
    let rest = wrong_entry m place (drop (i + 1) es) in
    sym (ap (λ (b : Bool). if b then rest else Some (said place e.key v e.version)) agrees)
    ∙ ap (λ (u : ℕ). if e.version == u then rest else Some (said place e.key u e.version)) (is ∙ version-shown m e.key)
    ∙ sym (ap (wrong_entry m place) (rest_at es i e at))
    ∙ same

-- the order so far
pub record Runs (base : Map) (all : List (ℕ × List Entry)) (place : ℕ) (t : Table (List ℕ) ℕ) (rest : List (ℕ × List Entry)) : Type 0 where
  pub now : Map
  pub shown : versions_of now ≡ t
  pub same : first_wrong now place rest ≡ first_wrong base 0 all

pub runs_on : (base : Map) (all : List (ℕ × List Entry)) (place : ℕ) (t next : Table (List ℕ) ℕ) (x : ℕ × List Entry) (rest : List (ℕ × List Entry))
    → (r : Runs base all place t (x ∷ rest)) → None ≡ wrong_entry r.now place x.1 → next ≡ body_raised t x.1 → Runs base all (place + 1) next rest
runs_on base all place t next x rest r none is = record {
  now = body_applied r.now x.1;
  shown = body-shown r.now x.1 ∙ ap (λ (u : Table (List ℕ) ℕ). body_raised u x.1) r.shown ∙ sym is;
  same =
      rw add-one (ap (λ (o : Option FirstWrong). maybe o (first_wrong (body_applied r.now x.1) (suc place) rest) Some) none ∙ r.same);
}

pub runs_out : (base : Map) (all : List (ℕ × List Entry)) (place : ℕ) (t : Table (List ℕ) ℕ) (x : ℕ × List Entry) (rest : List (ℕ × List Entry)) (w : FirstWrong)
    → (r : Runs base all place t (x ∷ rest)) → Some w ≡ wrong_entry r.now place x.1 → Some w ≡ first_wrong base 0 all
runs_out base all place t x rest w r here =
    ap (λ (o : Option FirstWrong). maybe o (first_wrong (body_applied r.now x.1) (suc place) rest) Some) here ∙ r.same

pub runs_end : (base : Map) (all : List (ℕ × List Entry)) (place : ℕ) (t : Table (List ℕ) ℕ) → Runs base all place t [] → None ≡ first_wrong base 0 all
runs_end base all place t r = r.same
