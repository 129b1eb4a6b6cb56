-- Values of which any two agree have an order. Plan: of the value whose put ends first and the one whose get ends first, one may
-- lead all others, since these two agree; it is taken out, and the rest ordered
use Rattle.std.proofs.Common.{◌≡◌, ℕ, zero, suc, ◌≤◌, ◌⊎◌, inl, inr, List, [], ◌∷◌, length, refl, sym, ap, ◌∙◌, subst, arith}
use Rattle.std.proofs.lemmas.Bool.{cases_lt}
use Rattle.scq_hist.specs.Exports.{StandsIn, Distinct}
use Rattle.scq_order.proofs.Values.{Value, MayLead, AreFair, IsOrdering}

-- a member at which f is least
record Least {X : Type 0} (f : X → ℕ) (xs : List X) : Type 0 where
  pub one : X
  pub is_in : StandsIn xs one
  pub least : (y : X) → StandsIn xs y → f one ≤ f y

least : {X : Type 0} (f : X → ℕ) (x : X) (xs : List X) → Least f (x ∷ xs)
least {X} f x [] = record { one = x; is_in = inl refl; least = λ y h. elim h [ inl e ↦ (let q = ap f e in omega arith) | inr m ↦ absurd m ] }
least {X} f x (z ∷ zs) =
    let w = least f z zs in
    elim (cases_lt (f w.one) (f x)) [
      | inl lt ↦ record {
        one = w.one;
        is_in = inr w.is_in;
        least = λ y h. elim h [ inl e ↦ (let q = ap f e in omega arith) | inr m ↦ w.least y m ];
      }
      | inr le ↦ record {
        one = x;
        is_in = inl refl;
        least = λ y h. elim h [ inl e ↦ (let q = ap f e in omega arith) | inr m ↦ (let q = w.least y m in omega arith) ];
      }
    ]

-- one that may lead all
record Leader (vs : List Value) : Type 0 where
  pub one : Value
  pub is_in : StandsIn vs one
  pub leads : (w : Value) → StandsIn vs w → MayLead one w

leader : (v : Value) (vs : List Value) → AreFair (v ∷ vs) → Leader (v ∷ vs)
leader v vs fair =
    let a = least (λ w. w.put_till) v vs in
    let b = least (λ w. w.got_till) v vs in
    let ta = fair.trimmed a.one a.is_in in
    let tb = fair.trimmed b.one b.is_in in
    elim (fair.agree a.one b.one a.is_in b.is_in) [
      | inl le ↦ record {
        one = b.one;
        is_in = b.is_in;
        leads = λ w h. record { put = (let p = a.least w h in omega arith); got = (let p = b.least w h in let q = tb.got in omega arith) };
      }
      | inr le ↦ record {
        one = a.one;
        is_in = a.is_in;
        leads = λ w h. record { put = (let p = a.least w h in let q = ta.put in omega arith); got = (let p = b.least w h in omega arith) };
      }
    ]

-- a list of different members without one of them
record Without {X : Type 0} (xs : List X) (x : X) : Type 0 where
  pub others : List X
  pub many : length xs ≡ suc (length others)
  pub distinct : Distinct others
  pub gone : ¬ StandsIn others x
  pub keeps : (z : X) → StandsIn xs z → (x ≡ z) ⊎ StandsIn others z
  pub within : (z : X) → StandsIn others z → StandsIn xs z

without : {X : Type 0} (xs : List X) (x : X) → Distinct xs → StandsIn xs x → Without xs x
without {X} [] x d h = absurd h
without {X} (y ∷ ys) x d (inl e) = record {
  others = ys;
  many = refl;
  distinct = d.1;
  gone = λ h. d.0 (subst (λ z. StandsIn ys z) (sym e) h);
  keeps = λ z h. elim h [ inl q ↦ inl (sym e ∙ q) | inr m ↦ inr m ];
  within = λ z h. inr h;
}
without {X} (y ∷ ys) x d (inr h) =
    let w = without ys x d.1 h in
    record {
      others = y ∷ w.others;
      many = ap suc w.many;
      distinct = (λ m. d.0 (w.within y m), w.distinct);
      gone = λ m. elim m [ inl e ↦ d.0 (subst (λ z. StandsIn ys z) (sym e) h) | inr k ↦ w.gone k ];
      keeps = λ z m. elim m [ inl e ↦ inr (inl e) | inr k ↦ elim (w.keeps z k) [ inl e ↦ inl e | inr q ↦ inr (inr q) ] ];
      within = λ z m. elim m [ inl e ↦ inl e | inr k ↦ inr (w.within z k) ];
    }

pub ordering : (n : ℕ) (vs : List Value) → length vs ≡ n → Distinct vs → AreFair vs → (ws : List Value) × IsOrdering vs ws
ordering n [] many d fair = ([], record { to = λ v h. h; from = λ v h. h; distinct = tt; ordered = tt })
ordering zero (v ∷ vs) many d fair = absurd (omega arith)
ordering (suc n) (v ∷ vs) many d fair =
    let l = leader v vs fair in
    let w = without (v ∷ vs) l.one d l.is_in in
    let q = w.many in
    let rest = ordering n w.others (omega arith) w.distinct (record {
      trimmed = λ u h. fair.trimmed u (w.within u h);
      agree = λ u x h k. fair.agree u x (w.within u h) (w.within x k);
    }) in
    let r = rest.1 in (
      l.one ∷ rest.0,
      record {
        to = λ u h. elim (w.keeps u h) [ inl e ↦ inl e | inr m ↦ inr (r.to u m) ];
        from = λ u h. elim h [ inl e ↦ subst (λ z. StandsIn (v ∷ vs) z) e l.is_in | inr m ↦ w.within u (r.from u m) ];
        distinct = (λ h. w.gone (r.from l.one h), r.distinct);
        ordered = (λ u h. l.leads u (w.within u (r.from u h)), r.ordered);
      },
    )
