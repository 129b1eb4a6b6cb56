-- C's ports and the ports that they have, as ports are put into them.
use Rattle.std.proofs.Common.{◌≡◌, ℕ, zero, suc, ◌+◌, ◌<◌, List, [], ◌∷◌, ◌++◌, length, map, replicate, refl, sym, ◌∙◌, ap, subst, inl, inr, arith, append-nil, append_assoc, length-append}
use Rattle.std.specs.Prelude.{◌⊎◌, All, Option, Some, None, slice_get, slice_set, slice_index_or, reverse}
use Rattle.std.proofs.lemmas.List.{map-append, reverse-append, reverse-reverse, length-map}
use Rattle.std.proofs.lemmas.Option.{slice_get_read}
use Rattle.std.proofs.Common.{Box, Global}
use Rattle.scq_port.specs.declared.port.Port.{Port}
use Rattle.scq_word.specs.declared.setup.Setup.{Setup}
use Rattle.scq_queue.specs.Exports.{first_passes}
use Rattle.scq_queue.proofs.NewPasses.{as_many_passes}
use Rattle.scq_port.specs.Exports.{AreOpened, new_port, PortStanding}
use Rattle.scq_c.specs.declared.c_port.CPort.{CPort}
use Rattle.scq_c.specs.declared.c_port.Memory.{Memory}
use Rattle.scq_c.specs.Exports.{IsClosed, ports_of, memories_of}

-- the port of the handle at a place
pub port_at : (hs : List CPort) (k : ℕ) (h : CPort) → slice_get hs k ≡ Some h → slice_get (ports_of hs) k ≡ Some h.handle.port
port_at [] k h is = absurd (cc)
port_at (x ∷ xs) zero h is = let same : x ≡ h = cc in ap (λ (y : CPort). Some y.handle.port) same
port_at (x ∷ xs) (suc k) h is = port_at xs k h is

-- one handle with another port
pub ports_set : (hs : List CPort) (k : ℕ) (h : CPort) → ports_of (slice_set hs k h) ≡ slice_set (ports_of hs) k h.handle.port
ports_set [] k h = refl
ports_set (x ∷ xs) zero h = refl
ports_set (x ∷ xs) (suc k) h = ap (λ (l : List (Option PortStanding)). x.handle.port ∷ l) (ports_set xs k h)

set_same : (os : List (Option PortStanding)) (k : ℕ) (o : Option PortStanding) → slice_get os k ≡ Some o → slice_set os k o ≡ os
set_same [] k o is = refl
set_same (x ∷ xs) zero o is = let same : x ≡ o = cc in ap (λ y. y ∷ xs) (sym same)
set_same (x ∷ xs) (suc k) o is = ap (λ l. x ∷ l) (set_same xs k o is)

pub ports_same : (hs : List CPort) (k : ℕ) (old new : CPort) → slice_get hs k ≡ Some old → new.handle.port ≡ old.handle.port → ports_of (slice_set hs k new) ≡ ports_of hs
ports_same hs k old new is same =
    ports_set hs k new ∙ ap (λ o. slice_set (ports_of hs) k o) same ∙ set_same (ports_of hs) k old.handle.port (port_at hs k old is)

-- one of C's ports by another, which was told of the same memory
pub memories_same : (hs : List CPort) (k : ℕ) (old new : CPort) → slice_get hs k ≡ Some old → new.memory ≡ old.memory
    → memories_of (slice_set hs k new) ≡ memories_of hs
memories_same [] k old new is same = refl
memories_same (x ∷ xs) zero old new is same =
    let first : x ≡ old = cc in ap (λ (m : Memory). m ∷ memories_of xs) (same ∙ ap (λ (p : CPort). p.memory) (sym first))
memories_same (x ∷ xs) (suc k) old new is same = ap (λ (l : List Memory). x.memory ∷ l) (memories_same xs k old new is same)

pub length_ports : (hs : List CPort) → length (ports_of hs) ≡ length hs
length_ports [] = refl
length_ports (x ∷ xs) = ap suc (length_ports xs)

-- closed are those below a place
abbrev pub NoneBelow : ℕ → List (Option PortStanding) → Type 0
NoneBelow k os = (i : ℕ) → i < k → slice_get os i ≡ Some None

pub all_closed : (hs : List CPort) → NoneBelow (length hs) (ports_of hs) → All IsClosed hs
all_closed [] none k d low = absurd (omega (arith, low))
all_closed (x ∷ xs) none zero d low = let first : Some x.handle.port ≡ Some None = none 0 (omega arith) in cc
all_closed (x ∷ xs) none (suc k) d low = all_closed xs (λ i lt. none (suc i) (omega (arith, lt))) k d (omega (arith, low))

pub none_closed : (hs : List CPort) (k : ℕ) (h : CPort) → All IsClosed hs → slice_get hs k ≡ Some h → h.handle.port ≡ None
none_closed [] k h all is = absurd (cc)
none_closed (x ∷ xs) zero h all is = let same : x ≡ h = cc in subst (λ (y : CPort). y.handle.port ≡ None) same (all 0 x (omega arith))
none_closed (x ∷ xs) (suc k) h all is = none_closed xs k h (λ i d low. all (suc i) d (omega (arith, low))) is

-- the ports of handles that are closed
pub closed_ports : (hs : List CPort) → All IsClosed hs → ports_of hs ≡ replicate (length hs) None
closed_ports [] all = refl
closed_ports (x ∷ xs) all =
    ap (λ (o : Option PortStanding). o ∷ ports_of xs) (all 0 x (omega arith))
    ∙ ap (λ (l : List (Option PortStanding)). None ∷ l) (closed_ports xs (λ k d low. all (suc k) d (omega (arith, low))))

abbrev no_port : Option PortStanding
no_port = None

one_up : (k : ℕ) → k + 1 ≡ suc k
one_up k = omega arith

-- the last of those that are closed
pub last_closed : (n k : ℕ) (os rest : List (Option PortStanding)) → os ≡ replicate n None ++ rest → n ≡ k + 1 → slice_get os k ≡ Some None
last_closed n k os rest is one =
    ap (λ l. slice_get l k) is ∙ ap (λ m. slice_get (replicate m None ++ rest) k) (one ∙ one_up k) ∙ by k
  where
    by : (j : ℕ) → slice_get (replicate (suc j) None ++ rest) j ≡ Some None
    by zero = refl
    by (suc j) = by j

pub last_filled : (n k : ℕ) (os rest : List (Option PortStanding)) (o : Option PortStanding) → os ≡ replicate n None ++ rest → n ≡ k + 1
    → slice_set os k o ≡ replicate k None ++ o ∷ rest
last_filled n k os rest o is one =
    ap (λ l. slice_set l k o) is ∙ ap (λ m. slice_set (replicate m None ++ rest) k o) (one ∙ one_up k) ∙ by k
  where
    by : (j : ℕ) → slice_set (replicate (suc j) None ++ rest) j o ≡ replicate j None ++ o ∷ rest
    by zero = refl
    by (suc j) = ap (λ (l : List (Option PortStanding)). None ∷ l) (by j)

-- one more port in its box
pub one_boxed : {A B : Type 0} (f : B → A) (made more : List B) (left rest : List A) (x : A) (y : B) → left ≡ rest ++ x ∷ [] → more ≡ made ++ y ∷ [] → f y ≡ x
    → map f made ++ reverse left ≡ map f more ++ reverse rest
one_boxed f made more left rest x y last new is =
    ap (λ l. map f made ++ reverse l) last ∙ ap (λ l. map f made ++ l) (reverse-append rest (x ∷ []))
    ∙ ap (λ z. map f made ++ z ∷ reverse rest) (sym is) ∙ sym (append_assoc (map f made) (f y ∷ []) (reverse rest))
    ∙ ap (λ l. l ++ reverse rest) (sym (map-append f made (y ∷ []))) ∙ ap (λ l. map f l ++ reverse rest) (sym new)

-- the boxes that are left with the ports that were handed out
pub one_handed : {A B : Type 0} (f : B → A) (all left rest : List B) (y : B) (out : List A) → map f left ++ out ≡ map f all → left ≡ rest ++ y ∷ []
    → map f rest ++ f y ∷ out ≡ map f all
one_handed f all left rest y out before last =
    sym (append_assoc (map f rest) (f y ∷ []) out) ∙ ap (λ l. l ++ out) (sym (map-append f rest (y ∷ []))) ∙ ap (λ l. map f l ++ out) (sym last) ∙ before

-- handles with the ports of handles that are closed are closed
pub closed_alike : (hs gs : List CPort) → ports_of hs ≡ ports_of gs → All IsClosed gs → All IsClosed hs
closed_alike [] gs same all k d low = absurd (omega (arith, low))
closed_alike (x ∷ xs) [] same all k d low = absurd (cc)
closed_alike (x ∷ xs) (y ∷ ys) same all zero d low =
    let first : x.handle.port ≡ y.handle.port = cc in first ∙ all 0 y (omega arith)
closed_alike (x ∷ xs) (y ∷ ys) same all (suc k) d low =
    let rest : ports_of xs ≡ ports_of ys = cc in closed_alike xs ys rest (λ i e lt. all (suc i) e (omega (arith, lt))) k d (omega (arith, low))

-- what is read at a place of a list
pub read_at : (hs : List CPort) (k : ℕ) (h : CPort) → k < length hs → h ≡ slice_index_or hs k h → slice_get hs k ≡ Some h
read_at hs k h low is = slice_get_read hs (length hs) k h refl low is

pub found_at : (hs : List CPort) (k : ℕ) (h : CPort) → k < length hs → h ≡ slice_index_or hs k h → slice_get hs k ≡ Some (slice_index_or hs k h)
found_at hs k h low is = read_at hs k h low is ∙ ap (λ (p : CPort). Some p) is

below_next : (i k : ℕ) → i < suc k → (i < k) ⊎ (i ≡ k)
below_next zero zero low = inr refl
below_next zero (suc k) low = inl (omega arith)
below_next (suc i) zero low = absurd (omega (arith, low))
below_next (suc i) (suc k) low =
    elim (below_next i k (omega (arith, low))) [
      | inl lt ↦ inl (omega (arith, lt))
      | inr e ↦ inr (ap suc e)
    ]

pub none_next : (k : ℕ) (os : List (Option PortStanding)) → NoneBelow k os → slice_get os k ≡ Some None → NoneBelow (k + 1) os
none_next k os none last i low =
    elim (below_next i k (omega (arith, low))) [
      | inl lt ↦ none i lt
      | inr same ↦ ap (λ j. slice_get os j) same ∙ last
    ]

-- there is a handle for each port that is left
pub length_filled : (hs : List CPort) (n k : ℕ) (rest : List (Option PortStanding)) → ports_of hs ≡ replicate n None ++ rest → n ≡ k + 1 → k < length hs
length_filled hs n k rest is one =
    let long : length hs ≡ length (replicate n no_port) + length rest = sym (length_ports hs) ∙ ap length is ∙ length-append (replicate n None) rest in
    let many = filled n in
    omega (arith, long, many, one)
  where
    filled : (m : ℕ) → length (replicate m no_port) ≡ m
    filled zero = refl
    filled (suc m) = ap suc (filled m)

-- before the first port is boxed, and behind the last
pub begin_boxed : {A B : Type 0} (f : B → A) (made : List B) (ports turned : List A) → made ≡ [] → turned ≡ reverse ports → ports ≡ map f made ++ reverse turned
begin_boxed f made ports turned none is =
    sym (ap (λ l. map f l ++ reverse turned) none ∙ ap (λ l. reverse l) is ∙ reverse-reverse ports)

pub end_boxed : {A B : Type 0} (f : B → A) (made : List B) (left : List A) → length left ≡ 0 → map f made ++ reverse left ≡ map f made
end_boxed f made [] none = append-nil (map f made)
end_boxed f made (x ∷ xs) none = absurd (omega (arith, none))

-- what is in a box
abbrev pub inside : Box Port Global → PortStanding
inside b = b.value

abbrev pub handed : Box Port Global → Option PortStanding
handed b = Some b.value

-- as many handles as there are ports
pub length_alike : (hs gs : List CPort) → ports_of hs ≡ ports_of gs → length hs ≡ length gs
length_alike hs gs same = sym (length_ports hs) ∙ ap length same ∙ length_ports gs

pub length_opened : (c : Setup) (hold : ℕ) (ports : List PortStanding) → AreOpened c hold ports → length ports ≡ c.seats
length_opened c hold ports are =
    ap length are.ports ∙ length-map (first_passes are.queue c.seats) (new_port hold) ∙ as_many_passes are.queue c.seats

pub map_twice : {A B C : Type 0} (f : A → B) (g : B → C) (xs : List A) → map g (map f xs) ≡ map (λ x. g (f x)) xs
map_twice f g [] = refl
map_twice f g (x ∷ xs) = ap (λ l. g (f x) ∷ l) (map_twice f g xs)

-- those below a place were told of this memory
abbrev pub ToldBelow : ℕ → Memory → List CPort → Type 0
ToldBelow k memory hs = (i : ℕ) (p : CPort) → i < k → slice_get hs i ≡ Some p → p.memory ≡ memory

-- one more is told
pub told_next : (hs : List CPort) (k : ℕ) (memory : Memory) (new : CPort) → ToldBelow k memory hs → new.memory ≡ memory
    → ToldBelow (k + 1) memory (slice_set hs k new)
told_next hs k memory new told is i p low at =
    elim (below_next i k (omega (arith, low))) [
      | inl lt ↦ told i p lt (sym (other hs i k new (let apart = lt in omega (arith, apart))) ∙ at)
      | inr same ↦ let here : new ≡ p = set_here hs i k new p same at in subst (λ (q : CPort). q.memory ≡ memory) here is
    ]
  where
    other : (hs : List CPort) (i k : ℕ) (h : CPort) → i < k → slice_get (slice_set hs k h) i ≡ slice_get hs i
    other [] i k h lt = refl
    other (x ∷ xs) i zero h lt = absurd (omega (arith, lt))
    other (x ∷ xs) zero (suc k) h lt = refl
    other (x ∷ xs) (suc i) (suc k) h lt = other xs i k h (omega (arith, lt))

    set_here : (hs : List CPort) (i k : ℕ) (h p : CPort) → i ≡ k → slice_get (slice_set hs k h) i ≡ Some p → h ≡ p
    set_here [] i k h p same at = absurd (cc)
    set_here (x ∷ xs) zero zero h p same at = cc
    set_here (x ∷ xs) zero (suc k) h p same at = absurd (omega (arith, same))
    set_here (x ∷ xs) (suc i) zero h p same at = absurd (omega (arith, same))
    set_here (x ∷ xs) (suc i) (suc k) h p same at = set_here xs i k h p (omega (arith, same)) at

-- all are told
pub all_told : (hs : List CPort) (memory : Memory) → ToldBelow (length hs) memory hs → All (λ (p : CPort). p.memory ≡ memory) hs
all_told [] memory told k d low = absurd (omega (arith, low))
all_told (x ∷ xs) memory told zero d low = told 0 x (omega arith) refl
all_told (x ∷ xs) memory told (suc k) d low = all_told xs memory (λ i p lt at. told (suc i) p (omega (arith, lt)) at) k d (omega (arith, low))
