-- Each step keeps the rule of the table in which ports leave their passes, and what the table holds once it is closed.
use Rattle.std.proofs.Common.{◌≡◌, ◌≢◌, ℕ, zero, suc, ◌<◌, List, [], ◌∷◌, ◌++◌, map, length, replicate, refl, sym, ◌∙◌, ap, subst, inl, inr, arith}
use Rattle.std.specs.Prelude.{◌⊎◌, Some, None, slice_index, slice_set}
use Rattle.std.proofs.lemmas.Bool.{cases_eq}
use Rattle.std.proofs.lemmas.List.{length-set, length-map, get_or-set_same, get_or-set_other}
use mathlib.Core.Option.{some, none, some-injective, some-ne-none}
use mathlib.Core.Option as maybe
use lib.ListN.{get_elem?}
use Rattle.atomic_table.specs.Table.{State, Me, Allows, Arrives, Final, Seen, keeps, takes, gives}
use Rattle.atomic_table.specs.Table as table
use Rattle.atomic_table.proofs.Lists.{at_set, set_here, set_else, some_there}
use Rattle.scq_queue.specs.Exports.{PassStanding}
use Rattle.scq_port.specs.declared.port_buffer.PortBuffer.{PortBuffer}
use Rattle.scq_port.specs.Exports.{PortQueue, Laid, Claim, no_claim, claimed_at, laid_at, home_of, IsPassOf, IsTrueClaim, EndsHold, HasClaimed}
use Rattle.scq_port.specs.Exports.{HasLaid}

at_end : {A : Type 0} (l : List A) (a b : A) (j : ℕ) → get_elem? (l ++ a ∷ []) j ≡ some b → (get_elem? l j ≡ some b) ⊎ ((j ≡ length l) × (a ≡ b))
at_end [] a b zero e = inr (refl, some-injective a b e)
at_end [] a b (suc j) e = absurd (some-ne-none b (sym e))
at_end (x ∷ xs) a b zero e = inl e
at_end (x ∷ xs) a b (suc j) e =
    elim (at_end xs a b j e) [
      | inl old ↦ inl old
      | inr new ↦ inr (ap suc new.0, new.1)
    ]

zeros : (n k : ℕ) → slice_index (replicate n 0) k ≡ 0
zeros zero k = refl
zeros (suc n) zero = refl
zeros (suc n) (suc k) = zeros n k

first_laid : List (ℕ × Laid) → Laid
first_laid [] = None
first_laid (x ∷ xs) = x.1

same_laid : (i : ℕ) {p q : PassStanding PortBuffer} → Some p ≡ Some q → laid_at i p ≡ laid_at i q
same_laid i e = let same = e in ap (λ (x : Laid). record { at = Some i; pass = x }) same

some_same : (i k : ℕ) → Some i ≡ Some k → k ≡ i
some_same i k e = let same : i ≡ k = cc in sym same

-- the table at the start
pub opens : (queue : PortQueue) (n : ℕ) (words : List ℕ) (slots : List Laid) → words ≡ replicate n 0 → length words ≡ length slots
    → EndsHold queue (table.opening words slots no_claim)
opens queue n words slots is many =
    record {
      count = many ∙ sym (length-map slots some);
      fresh = λ k low zero_. some_there slots k (let l = length-map slots some in omega (arith, low, l));
      left =
          λ k low two.
          let no : 0 ≡ 2 = sym (ap (λ (l : List ℕ). slice_index l k) is ∙ zeros n k) ∙ two in absurd (omega (arith, no));
      claims = λ id b k at is_at. nothing id b k at is_at;
      apart = λ one other a b k at_one at_other is_one is_other. nothing_at one a k at_one is_one;
    }
  where
    never : (id : ℕ) (b : Claim) (k : ℕ) → get_elem? (no_claim ∷ []) id ≡ some b → b.at ≡ Some k → ⊥
    never zero b k at is_at =
        let no : None ≡ Some k = ap (λ (x : Claim). x.at) (some-injective no_claim b at) ∙ is_at in absurd (cc)
    never (suc id) b k at is_at = absurd (some-ne-none b (sym at))

    nothing : (id : ℕ) (b : Claim) (k : ℕ) → get_elem? (no_claim ∷ []) id ≡ some b → b.at ≡ Some k → IsTrueClaim words (map some slots) b k
    nothing id b k at is_at = absurd (never id b k at is_at)

    nothing_at : {one other : ℕ} (id : ℕ) (b : Claim) (k : ℕ) → get_elem? (no_claim ∷ []) id ≡ some b → b.at ≡ Some k → one ≡ other
    nothing_at id b k at is_at = absurd (never id b k at is_at)

-- one begins to close a port
pub begins : (queue : PortQueue) (slots i : ℕ) → i < slots → Arrives (EndsHold queue) slots i (λ _. 1) (λ n later. HasClaimed i n later)
begins queue slots i low s g many small =
    elim (cases_eq (slice_index s.words i) 0) [
      | inl free ↦
          let y = g.fresh i (omega (arith, low, many)) free in
          (claimed_at i, takes i y.0, y.1, taken free, record { took = λ e. (y.0, refl) })
      | inr held ↦ (no_claim, keeps, tt, stayed held, record { took = λ e. absurd (held e) })
    ]
  where
    words : List ℕ
    words = slice_set s.words i 1

    one : slice_index words i ≡ 1
    one = get_or-set_same s.words i 1 0 (let c = g.count in omega (arith, low, many, c))

    as_was : (k : ℕ) → k ≢ i → slice_index words k ≡ slice_index s.words k
    as_was k apart = get_or-set_other s.words i k 1 0 apart

    not_here : (k x : ℕ) → (x ≡ 1 → ⊥) → slice_index words k ≡ x → k ≢ i
    not_here k x differs is same = differs (sym is ∙ ap (λ (j : ℕ). slice_index words j) same ∙ one)

    taken : slice_index s.words i ≡ 0 → EndsHold queue (record { words = words; homes = slice_set s.homes i none; views = s.views ++ claimed_at i ∷ [] })
    taken free =
        record {
          count = length-set s.words i 1 ∙ g.count ∙ sym (length-set s.homes i none);
          fresh =
              λ k there zero_.
              let apart = not_here k 0 (λ e. omega (arith, e)) zero_ in
              let y = g.fresh k (let l = length-set s.homes i none in omega (arith, there, l)) (sym (as_was k apart) ∙ zero_) in
              (y.0, set_else s.homes i k none apart ∙ y.1);
          left =
              λ k there two.
              let apart = not_here k 2 (λ e. omega (arith, e)) two in
              let p = g.left k (let l = length-set s.homes i none in omega (arith, there, l)) (sym (as_was k apart) ∙ two) in
              (p.0, set_else s.homes i k none apart ∙ p.1, p.2);
          claims =
              λ id b k at is_at.
              elim (at_end s.views (claimed_at i) b id at) [
                | inl old ↦
                    let t = g.claims id b k old is_at in
                    let apart : k ≢ i = λ same. t.begun (ap (λ (j : ℕ). slice_index s.words j) same ∙ free) in
                    record { begun = λ z. t.begun (sym (as_was k apart) ∙ z); home = set_else s.homes i k none apart ∙ t.home }
                | inr new ↦
                    let same = some_same i k (ap (λ (x : Claim). x.at) new.1 ∙ is_at) in
                    record {
                      begun = λ z. let no : 0 ≡ 1 = sym z ∙ ap (λ (j : ℕ). slice_index words j) same ∙ one in omega (arith, no);
                      home =
                          ap (λ (j : ℕ). get_elem? (slice_set s.homes i none) j) same
                          ∙ set_here s.homes i none (omega (arith, low, many))
                          ∙ ap (λ (x : Claim). some (home_of x.pass)) new.1;
                    }
              ];
          apart =
              λ first other a b k at_first at_other is_first is_other.
              elim (at_end s.views (claimed_at i) a first at_first) [
                | inl old ↦
                    elim (at_end s.views (claimed_at i) b other at_other) [
                      | inl older ↦ g.apart first other a b k old older is_first is_other
                      | inr new ↦ absurd (clash free first a k old is_first (some_same i k (ap (λ (x : Claim). x.at) new.1 ∙ is_other)))
                    ]
                | inr newer ↦
                    elim (at_end s.views (claimed_at i) b other at_other) [
                      | inl older ↦ absurd (clash free other b k older is_other (some_same i k (ap (λ (x : Claim). x.at) newer.1 ∙ is_first)))
                      | inr new ↦ newer.0 ∙ sym new.0
                    ]
              ];
        }
      where
        clash : slice_index s.words i ≡ 0 → (id : ℕ) (b : Claim) (k : ℕ) → get_elem? s.views id ≡ some b → b.at ≡ Some k → k ≡ i → ⊥
        clash was id b k at is_at same = (g.claims id b k at is_at).begun (ap (λ (j : ℕ). slice_index s.words j) same ∙ was)

    stayed : (slice_index s.words i ≡ 0 → ⊥) → EndsHold queue (record { words = words; homes = s.homes; views = s.views ++ no_claim ∷ [] })
    stayed held =
        record {
          count = length-set s.words i 1 ∙ g.count;
          fresh = λ k there zero_. let apart = not_here k 0 (λ e. omega (arith, e)) zero_ in g.fresh k there (sym (as_was k apart) ∙ zero_);
          left = λ k there two. let apart = not_here k 2 (λ e. omega (arith, e)) two in g.left k there (sym (as_was k apart) ∙ two);
          claims =
              λ id b k at is_at.
              elim (at_end s.views no_claim b id at) [
                | inl old ↦
                    let t = g.claims id b k old is_at in
                    record {
                      begun =
                          λ z.
                          elim (cases_eq k i) [
                            | inl same ↦ let no : 0 ≡ 1 = sym z ∙ ap (λ (j : ℕ). slice_index words j) same ∙ one in omega (arith, no)
                            | inr apart ↦ t.begun (sym (as_was k apart) ∙ z)
                          ];
                      home = t.home;
                    }
                | inr new ↦ let no : None ≡ Some k = ap (λ (x : Claim). x.at) new.1 ∙ is_at in absurd (cc)
              ];
          apart =
              λ first other a b k at_first at_other is_first is_other.
              elim (at_end s.views no_claim a first at_first) [
                | inl old ↦
                    elim (at_end s.views no_claim b other at_other) [
                      | inl older ↦ g.apart first other a b k old older is_first is_other
                      | inr new ↦ let no : None ≡ Some k = ap (λ (x : Claim). x.at) new.1 ∙ is_other in absurd (cc)
                    ]
                | inr new ↦ let no : None ≡ Some k = ap (λ (x : Claim). x.at) new.1 ∙ is_first in absurd (cc)
              ];
        }

abbrev Laying : PortQueue → ℕ → ℕ → ℕ → Me Laid Claim → Type 0
Laying queue slots id i me =
    Allows (EndsHold queue) slots id me i (λ _. 2) (λ n later. HasLaid i me.1 later.0)

-- the pass of a port is laid in its slot
pub lays : (queue : PortQueue) (slots id i : ℕ) (me : Me Laid Claim) (p : PassStanding PortBuffer) → i < slots → me ≡ (claimed_at i, (i, Some p) ∷ [])
    → IsPassOf queue i p → Laying queue slots id i me
unfolding first_laid
lays queue slots id i me p low is ok = subst (λ (m : Me Laid Claim). Laying queue slots id i m) (sym is) laid
  where
    laid : Laying queue slots id i (claimed_at i, (i, Some p) ∷ [])
    laid s g many here small = (laid_at i p, gives, tt, kept, λ q e. same_laid i (ap first_laid e))
      where
        words : List ℕ
        words = slice_set s.words i 2

        homes : List (maybe.Option Laid)
        homes = slice_set s.homes i (some (Some p))

        two_here : slice_index words i ≡ 2
        two_here = get_or-set_same s.words i 2 0 (let c = g.count in omega (arith, low, many, c))

        as_was : (k : ℕ) → k ≢ i → slice_index words k ≡ slice_index s.words k
        as_was k apart = get_or-set_other s.words i k 2 0 apart

        at_home : get_elem? homes i ≡ some (some (Some p))
        at_home = set_here s.homes i (some (Some p)) (omega (arith, low, many))

        before : (j : ℕ) (b : Claim) → get_elem? (slice_set s.views id (laid_at i p)) j ≡ some b → (was : Claim) × (get_elem? s.views j ≡ some was)
            × (was.at ≡ b.at)
        before j b at =
            elim (at_set s.views id j (laid_at i p) b at) [
              | inl own ↦
                  (claimed_at i, ap (λ (n : ℕ). get_elem? s.views n) own.0 ∙ here, ap (λ (x : Claim). x.at) own.1)
              | inr other ↦ (b, other.1, refl)
            ]

        kept : EndsHold queue (record { words = words; homes = homes; views = slice_set s.views id (laid_at i p) })
        kept =
            record {
              count = length-set s.words i 2 ∙ g.count ∙ sym (length-set s.homes i (some (Some p)));
              fresh =
                  λ k there zero_.
                  elim (cases_eq k i) [
                    | inl same ↦
                        let no : 0 ≡ 2 = sym zero_ ∙ ap (λ (j : ℕ). slice_index words j) same ∙ two_here in absurd (omega (arith, no))
                    | inr apart ↦
                        let y = g.fresh k (let l = length-set s.homes i (some (Some p)) in omega (arith, there, l)) (sym (as_was k apart) ∙ zero_) in
                        (y.0, set_else s.homes i k (some (Some p)) apart ∙ y.1)
                  ];
              left =
                  λ k there two.
                  elim (cases_eq k i) [
                    | inl same ↦ (p, ap (λ (j : ℕ). get_elem? homes j) same ∙ at_home, subst (λ (j : ℕ). IsPassOf queue j p) (sym same) ok)
                    | inr apart ↦
                        let q = g.left k (let l = length-set s.homes i (some (Some p)) in omega (arith, there, l)) (sym (as_was k apart) ∙ two) in
                        (q.0, set_else s.homes i k (some (Some p)) apart ∙ q.1, q.2)
                  ];
              claims =
                  λ j b k at is_at.
                  elim (at_set s.views id j (laid_at i p) b at) [
                    | inl own ↦
                        let same = some_same i k (ap (λ (x : Claim). x.at) own.1 ∙ is_at) in
                        record {
                          begun = λ z. let no : 0 ≡ 2 = sym z ∙ ap (λ (n : ℕ). slice_index words n) same ∙ two_here in omega (arith, no);
                          home =
                              ap (λ (n : ℕ). get_elem? homes n) same ∙ at_home ∙ ap (λ (x : Claim). some (home_of x.pass)) own.1;
                        }
                    | inr other ↦
                        let t = g.claims j b k other.1 is_at in
                        let apart : k ≢ i =
                        λ same. other.0 (g.apart j id b (claimed_at i) k other.1 here is_at (ap (λ (n : ℕ). Some n) (sym same))) in
                        record { begun = λ z. t.begun (sym (as_was k apart) ∙ z); home = set_else s.homes i k (some (Some p)) apart ∙ t.home }
                  ];
              apart =
                  λ one other a b k at_one at_other is_one is_other.
                  let x = before one a at_one in
                  let y = before other b at_other in
                  g.apart one other x.0 y.0 k x.1 y.1 (x.2 ∙ is_one) (y.2 ∙ is_other);
            }

-- what lies in a slot of the closed table whose word is 2
pub left_there : (queue : PortQueue) (id : ℕ) (b : Claim) (words : List ℕ) (slots : List Laid) → Final (Seen (EndsHold queue) id b) words slots
    → (k : ℕ) (x : Laid) → k < length slots → slice_index words k ≡ 2 → get_elem? slots k ≡ some x → (p : PassStanding PortBuffer) × (x ≡ Some p) × IsPassOf queue k p
left_there queue id b words slots final k x low two at =
    let s = final.0 in
    let g = final.1.0 in
    let q = g.left k (let l = final.3 in omega (arith, low, l)) (ap (λ (l : List ℕ). slice_index l k) final.2 ∙ two) in
    let there = final.4 k (Some q.0) q.1 in
    (q.0, some-injective x (Some q.0) (sym at ∙ there), q.2)

-- and in that of one who laid a pass
pub own_there : (queue : PortQueue) (id : ℕ) (b : Claim) (words : List ℕ) (slots : List Laid) → Final (Seen (EndsHold queue) id b) words slots
    → (k : ℕ) (p : PassStanding PortBuffer) → b ≡ laid_at k p → get_elem? slots k ≡ some (Some p)
own_there queue id b words slots final k p is =
    let t = final.1.0.claims id b k final.1.1 (ap (λ (x : Claim). x.at) is) in
    final.4 k (Some p) (t.home ∙ ap (λ (x : Claim). some (home_of x.pass)) is)
