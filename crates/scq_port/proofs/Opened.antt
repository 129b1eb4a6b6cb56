-- The ports of a new queue, made one by one.
use Rattle.std.proofs.Common.{◌≡◌, ℕ, zero, suc, List, [], ◌∷◌, ◌++◌, length, map, refl, sym, ◌∙◌, ap, subst, inl, inr, arith, append_assoc}
use Rattle.std.specs.Prelude.{All, reverse, Result, Ok, Err, IfOk, Some, None, slice_get}
use Rattle.std.proofs.lemmas.Bool.{cases_eq}
use Rattle.std.proofs.lemmas.List.{reverse-append, length-map, map-append}
use Rattle.std.proofs.lemmas.List.Elements.{All-cons}
use Rattle.scq_queue.specs.Exports.{PassStanding, first_pass, first_passes}
use Rattle.scq_port.specs.declared.port_buffer.PortBuffer.{PortBuffer}
use Rattle.scq_port.specs.Exports.{PortQueue, PortStanding, new_port, HoldsNothing}
use Rattle.scq_queue.proofs.Leaving.{get_last}
use Rattle.scq_queue.proofs.NewPasses.{as_many_passes}
use Rattle.scq_port.proofs.Unpacking.{before_last}

-- the passes of a new queue hold nothing, from the last to the first
pub all_fresh : (queue : PortQueue) (n : ℕ) → All (HoldsNothing queue) (reverse (first_passes queue n))
all_fresh queue zero = λ k d low. absurd (omega (arith, low))
all_fresh queue (suc n) =
    subst (λ (l : List (PassStanding PortBuffer)). All (HoldsNothing queue) l) (sym (reverse-append (first_passes queue n) (first_pass queue n ∷ [])))
    (All-cons (HoldsNothing queue) (first_pass queue n) (reverse (first_passes queue n)) (record { own = refl; awake = refl; none = refl }) (all_fresh queue n))

-- what holds of all of a list holds of its last, and of the others
pub all_last : {A : Type 0} (P : A → Type 0) (xs : List A) (x : A) → All P (xs ++ x ∷ []) → P x
all_last P [] x all = all 0 x (omega arith)
all_last P (y ∷ ys) x all = all_last P ys x (λ k d low. all (suc k) d (omega (arith, low)))

pub all_others : {A : Type 0} (P : A → Type 0) (xs : List A) (x : A) → All P (xs ++ x ∷ []) → All P xs
all_others P [] x all = λ k d low. absurd (omega (arith, low))
all_others P (y ∷ ys) x all = All-cons P y ys (all 0 y (omega arith)) (all_others P ys x (λ k d low. all (suc k) d (omega (arith, low))))

-- one more of those that are made from the last of what is left
pub one_more : {A B : Type 0} (f : A → B) (made more : List B) (left rest : List A) (x : A) (y : B) (all : List B) → made ++ map f (reverse left) ≡ all
    → left ≡ rest ++ x ∷ [] → more ≡ made ++ y ∷ [] → y ≡ f x → more ++ map f (reverse rest) ≡ all
one_more f made more left rest x y all before last new is =
    ap (λ l. l ++ map f (reverse rest)) new ∙ append_assoc made (y ∷ []) (map f (reverse rest))
    ∙ ap (λ z. made ++ z ∷ map f (reverse rest)) is
    ∙ ap (λ l. made ++ map f l) (sym (reverse-append rest (x ∷ []))) ∙ ap (λ l. made ++ map f (reverse l)) (sym last) ∙ before

get_middle : {A : Type 0} (xs ys : List A) (y : A) → slice_get (xs ++ y ∷ ys) (length xs) ≡ Some y
get_middle [] ys y = refl
get_middle (x ∷ xs) ys y = get_middle xs ys y

-- the pass of each port of a new queue has the port's number
new_number : (queue : PortQueue) (hold n k : ℕ) (s : PortStanding) → slice_get (map (new_port hold) (first_passes queue n)) k ≡ Some s → s.pass.number ≡ k
new_number queue hold zero k s at = absurd (let no : None ≡ Some s = at in cc)
new_number queue hold (suc n) k s at =
    elim (cases_eq k (length before)) [
      | inl last ↦
          let both : Some (new_port hold (first_pass queue n)) ≡ Some s =
          sym (get_last before (new_port hold (first_pass queue n)))
          ∙ ap (λ (i : ℕ). slice_get (before ++ new_port hold (first_pass queue n) ∷ []) i) (sym last) ∙ here in
          let same : new_port hold (first_pass queue n) ≡ s = cc in
          sym (ap (λ (t : PortStanding). t.pass.number) same) ∙ sym many ∙ sym last
      | inr other ↦ new_number queue hold n k s (sym (before_last before (new_port hold (first_pass queue n)) k other) ∙ here)
    ]
  where
    before : List PortStanding
    before = map (new_port hold) (first_passes queue n)

    many : length before ≡ n
    many = length-map (first_passes queue n) (new_port hold) ∙ as_many_passes queue n

    here : slice_get (before ++ new_port hold (first_pass queue n) ∷ []) k ≡ Some s
    here =
        ap (λ (l : List PortStanding). slice_get l k) (sym (map-append (new_port hold) (first_passes queue n) (first_pass queue n ∷ []))) ∙ at

-- the next of those that are made from the last of what is left
pub next_number : (queue : PortQueue) (hold n : ℕ) (made : List PortStanding) (all left rest : List (PassStanding PortBuffer)) (x : PassStanding PortBuffer)
    → made ++ map (new_port hold) (reverse left) ≡ map (new_port hold) all → all ≡ first_passes queue n → left ≡ rest ++ x ∷ [] → x.number ≡ length made
next_number queue hold n made all left rest x before first last =
    new_number queue hold n (length made) (new_port hold x)
    (ap (λ (l : List PortStanding). slice_get l (length made))
    (sym (before ∙ ap (λ (l : List (PassStanding PortBuffer)). map (new_port hold) l) first)
    ∙ ap (λ (l : List (PassStanding PortBuffer)). made ++ map (new_port hold) (reverse l)) last
    ∙ ap (λ (l : List (PassStanding PortBuffer)). made ++ map (new_port hold) l) (reverse-append rest (x ∷ [])))
    ∙ get_middle made (map (new_port hold) (reverse rest)) (new_port hold x))

-- where it went well
pub if_ok : {A E : Type 0} (r : Result A E) (P Q : A → Type 0) → ((a : A) → P a → Q a) → IfOk r P → IfOk r Q
if_ok (Ok a) P Q gives is = gives a is
if_ok (Err e) P Q gives is = tt
