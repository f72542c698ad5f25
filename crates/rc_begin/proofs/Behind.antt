-- Nodes that begin one behind another.
use Rattle.std.proofs.Common.{◌≡◌, ℕ, zero, suc, ◌+◌, ◌<◌, Bool, true, false, List, [], ◌∷◌, ◌++◌, length, Option, Some, None, Result, Ok, Err, IfOk, refl, sym, ap, ◌∙◌, subst, arith, ◌⊎◌, inl, inr, ⊎_elim, length-append}
use Rattle.std.specs.Prelude.{slice_get, if◌then◌else◌}
use Rattle.std.proofs.lemmas.Option.{slice_get_within}
use Rattle.rc_ids.specs.Tables.{maybe}
use Rattle.rc_ids.specs.Cluster.{Layout}
use Rattle.rc_ids.specs.declared.names.NodeId.{NodeId}
use Rattle.rc_record.specs.declared.record.Record.{Record}
use Rattle.rc_log.specs.Records.{records}
use Rattle.rc_runs.specs.Devices.{Device, Fate, Made, Full, FailsAt, opened, powered}
use Rattle.rc_runs.specs.Session.{Halt, FarmFails}
use Rattle.rc_runs.specs.Stored.{Place, Begun, begins_node, begins_all, with_rest, head_added, creates, takes_log, reads_log, opens_log, refusal, owes_head, device_at}
use Rattle.rc_begin.specs.Places.{AreAt, AllAt}

-- ONE MORE AT THE END of a list
get_front : {X : Type 0} (xs : List X) (y : X) (i : ℕ) → i < length xs → slice_get (xs ++ y ∷ []) i ≡ slice_get xs i
get_front [] y i h = absurd (omega arith)
get_front (x ∷ xs) y zero h = refl
get_front (x ∷ xs) y (suc i) h = let k : i < length xs = omega arith in get_front xs y i k

get_end : {X : Type 0} (xs : List X) (y : X) → slice_get (xs ++ y ∷ []) (length xs) ≡ Some y
get_end [] y = refl
get_end (x ∷ xs) y = get_end xs y

below_or : (i n : ℕ) → i < n + 1 → (i < n) ⊎ (i ≡ n)
below_or zero zero h = inr refl
below_or zero (suc n) h = inl (omega arith)
below_or (suc i) zero h = absurd (omega arith)
below_or (suc i) (suc n) h =
    let k : i < n + 1 = omega arith in
    ⊎_elim (λ (lt : i < n). inl (omega arith)) (λ (e : i ≡ n). inr (ap suc e)) (below_or i n k)

front_or_end : {X : Type 0} (xs : List X) (y z : X) (i : ℕ) → slice_get (xs ++ y ∷ []) i ≡ Some z → (i < length xs) ⊎ (i ≡ length xs)
front_or_end xs y z i at =
    let within = slice_get_within (xs ++ y ∷ []) i z at in
    below_or i (length xs) (subst (λ (n : ℕ). i < n) (length-append xs (y ∷ [])) within)

same_some : {X : Type 0} (x y : X) → Some x ≡ Some y → x ≡ y
same_some x y e = cc

-- a host more, with its node and its device
pub one_behind : {H X : Type 0} (Is : ℕ → H → X → Device → Type 0) (hosts : List H) (nodes : List X) (devices : List Device) → AreAt Is hosts nodes devices
    → (h : H) (x : X) (d : Device) → Is (length hosts) h x d → AreAt Is (hosts ++ h ∷ []) (nodes ++ x ∷ []) (devices ++ d ∷ [])
one_behind {H = H} {X = X} Is hosts nodes devices are h x d is = record {
  as_nodes = length-append nodes (x ∷ []) ∙ ap (λ (n : ℕ). n + 1) are.as_nodes ∙ sym (length-append hosts (h ∷ []));
  as_devices = length-append devices (d ∷ []) ∙ ap (λ (n : ℕ). n + 1) are.as_devices ∙ sym (length-append hosts (h ∷ []));
  each = λ j g y e at_host at_node at_device.
      ⊎_elim
      (λ (lt : j < length hosts).
      are.each j g y e (sym (get_front hosts h j lt) ∙ at_host)
      (sym (get_front nodes x j (subst (λ (n : ℕ). j < n) (sym are.as_nodes) lt)) ∙ at_node)
      (sym (get_front devices d j (subst (λ (n : ℕ). j < n) (sym are.as_devices) lt)) ∙ at_device))
      (λ (same : j ≡ length hosts).
      let of_host = same_some h g (sym (get_end hosts h) ∙ subst (λ (k : ℕ). slice_get (hosts ++ h ∷ []) k ≡ Some g) same at_host) in
      let of_node = same_some x y (sym (get_end nodes x) ∙ subst (λ (k : ℕ). slice_get (nodes ++ x ∷ []) k ≡ Some y) (same ∙ sym are.as_nodes) at_node) in
      let of_device = same_some d e (sym (get_end devices d) ∙ subst (λ (k : ℕ). slice_get (devices ++ d ∷ []) k ≡ Some e) (same ∙ sym are.as_devices) at_device) in
      subst (λ (k : ℕ). Is k g y e) (sym same)
      (subst (λ (u : H). Is (length hosts) u y e) of_host (subst (λ (u : X). Is (length hosts) h u e) of_node (subst (Is (length hosts) h x) of_device is))))
      (front_or_end hosts h g j at_host);
}

-- what holds of all holds of those before, and of the last
pub all_front : {H : Type 0} (P : ℕ → H → Type 0) (hosts : List H) (h : H) → AllAt P (hosts ++ h ∷ []) → AllAt P hosts
all_front P hosts h all i g at = all i g (get_front hosts h i (slice_get_within hosts i g at) ∙ at)

pub all_end : {H : Type 0} (P : ℕ → H → Type 0) (hosts : List H) (h : H) → AllAt P (hosts ++ h ∷ []) → P (length hosts) h
all_end P hosts h all = all (length hosts) h (get_end hosts h)

-- ALL NODES in two parts
abbrev pub joined : Result (List Begun) Halt → Result (List Begun) Halt → Result (List Begun) Halt
joined (Ok xs) (Ok ys) = Ok (xs ++ ys)
joined (Ok xs) (Err halt) = Err halt
joined (Err halt) rest = Err halt

none_before : (r : Result (List Begun) Halt) → r ≡ joined (Ok []) r
none_before (Ok ys) = refl
none_before (Err halt) = refl

one_before : (a : Result Begun Halt) (r rest : Result (List Begun) Halt) → with_rest a (joined r rest) ≡ joined (with_rest a r) rest
one_before (Ok x) (Ok xs) (Ok ys) = refl
one_before (Ok x) (Ok xs) (Err halt) = refl
one_before (Ok x) (Err halt) rest = refl
one_before (Err halt) r rest = refl

pub in_two : (p : Place) (c : Layout) (ns ms : List NodeId) → begins_all p c (ns ++ ms) ≡ joined (begins_all p c ns) (begins_all p c ms)
in_two p c [] ms = none_before (begins_all p c ms)
in_two p c (n ∷ ns) ms = ap (with_rest (begins_node p c n)) (in_two p c ns ms) ∙ one_before (begins_node p c n) (begins_all p c ns) (begins_all p c ms)

-- one node more begins, or is refused
pub begins_more : (p : Place) (c : Layout) (ns : List NodeId) (n : NodeId) (xs : List Begun) (x : Begun) → begins_all p c ns ≡ Ok xs → begins_node p c n ≡ Ok x
    → begins_all p c (ns ++ n ∷ []) ≡ Ok (xs ++ x ∷ [])
begins_more p c ns n xs x all one =
    in_two p c ns (n ∷ [])
    ∙ ap (λ (r : Result (List Begun) Halt). joined r (with_rest (begins_node p c n) (Ok []))) all
    ∙ ap (λ (r : Result Begun Halt). joined (Ok xs) (with_rest r (Ok []))) one

pub begins_none : (p : Place) (c : Layout) (ns ms : List NodeId) (n : NodeId) (xs : List Begun) (halt : Halt) → begins_all p c ns ≡ Ok xs → begins_node p c n ≡ Err halt
    → begins_all p c (ns ++ n ∷ ms) ≡ Err halt
begins_none p c ns ms n xs halt all one =
    in_two p c ns (n ∷ ms)
    ∙ ap (λ (r : Result (List Begun) Halt). joined r (with_rest (begins_node p c n) (begins_all p c ms))) all
    ∙ ap (λ (r : Result Begun Halt). joined (Ok xs) (with_rest r (begins_all p c ms))) one

-- A NODE THAT BEGAN has its name
abbrev Named : NodeId → Result Begun Halt → Type 0
Named node r = IfOk r (λ x. x.node ≡ node)

on_maybe : {A B : Type 0} (P : B → Type 0) (o : Option A) (other : B) (make : A → B) → P other → ((x : A) → P (make x)) → P (maybe o other make)
on_maybe P None other make h k = h
on_maybe P (Some x) other make h k = k x

on_if : {B : Type 0} (P : B → Type 0) (b : Bool) (x y : B) → P x → P y → P (if b then x else y)
on_if P true x y h k = h
on_if P false x y h k = k

head_named : (node : NodeId) (log : List Record) (fate : Fate) (d : Device) → Named node (head_added node log fate d)
head_named node log Made d = refl
head_named node log Full d = tt
head_named node log (FailsAt at cause) d = tt

creates_named : (c : Layout) (node : NodeId) (fate : Fate) (d : Device) → Named node (creates c node fate d)
creates_named c node Made d = head_named node [] _ _
creates_named c node Full d = tt
creates_named c node (FailsAt at cause) d = tt

takes_named : (c : Layout) (node : NodeId) (d : Device) (blobs : List (List ℕ)) → Named node (takes_log c node d blobs)
takes_named c node d blobs =
    on_maybe (Named node) (refusal node c blobs) _ _
    (on_if (Named node) (owes_head blobs) _ _ (head_named node _ _ _) refl)
    (λ fault. tt)

reads_named : (c : Layout) (node : NodeId) (d : Device) (r : Result (List (List ℕ)) ℕ) → Named node (reads_log c node d r)
reads_named c node d (Ok blobs) = takes_named c node _ blobs
reads_named c node d (Err place) = tt

opens_named : (c : Layout) (node : NodeId) (d : Device) (bytes : List ℕ) → Named node (opens_log c node d bytes)
opens_named c node d [] = creates_named c node _ _
opens_named c node d (b ∷ bytes) =
    on_maybe (Named node) (opened (powered d)) (Err FarmFails) (λ x. reads_log c node x (records (b ∷ bytes))) tt (λ x. reads_named c node x (records (b ∷ bytes)))

node_named : (p : Place) (c : Layout) (node : NodeId) → Named node (begins_node p c node)
node_named p c node = on_if (Named node) (p.lend_fails node) _ _ tt (opens_named c node (device_at p node) (p.content node))

pub begun_named : (p : Place) (c : Layout) (node : NodeId) (x : Begun) → begins_node p c node ≡ Ok x → x.node ≡ node
begun_named p c node x is = subst (Named node) is (node_named p c node)
