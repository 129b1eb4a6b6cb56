-- The tallies of opening tokens, one token at a time, and what they tell of a get
use Rattle.std.proofs.Common.{◌≡◌, ◌∙◌, ℕ, ◌+◌, ◌<◌, ◌≤◌, ◌↔◌, inl, inr, Bool, IsTrue, List, [], ◌∷◌, ◌++◌, Some, length, length-append, slice_get, ap, refl, sym, subst, arith}
use Rattle.std.proofs.lemmas.Bool.{cases_eq}
use Rattle.std.proofs.lemmas.Option.{slice_get_within}
use Rattle.scq_hist.specs.Exports.{IsGot, IsTally, AddsPut, AllClaimed, NoTokenGotAt}
use Rattle.scq_hist.specs.declared.events.Event.{Event}
use Rattle.scq_hist.specs.declared.events.Event.TheVariants.{End}
use Rattle.scq_hist.specs.declared.events.PutName.TheVariants.{Opening}
use Rattle.scq_hist.specs.declared.events.Reply.TheVariants.{Got}
use Rattle.scq_hist.specs.declared.tallies.Tally.{Tally}
use Rattle.scq_hist.proofs.Counting.{count_none}
use Rattle.scq_hist.proofs.NamesLemmas.{same_name}
use Rattle.scq_hist.proofs.TallyLemmas.{names_from_get, tally_more}
use Rattle.scq_check.specs.Exports.{IsTokenBelow, IsTokenInOrderAt, IsGetOfToken, AreTokenTallies}
use Rattle.scq_check.proofs.Saved.{still, pushed}

-- no token stands before the first
pub tally_none : (events : List Event) (u f : ℕ) → u ≡ 0 → f ≡ 0 → IsTally events (IsTokenBelow 0) u f
tally_none events u f none first =
    subst (λ n. IsTally events (IsTokenBelow 0) n f) (sym none) (subst (λ n. IsTally events (IsTokenBelow 0) 0 n) (sym first) (record {
      ungot = count_none (λ name. IsTokenBelow 0 name × (¬ IsGot events name)) (λ name h. let lt = h.0.1 in absurd (omega arith));
      claimed = λ name s e below get. (let lt = below.1 in absurd (omega arith));
      least = λ m lt. absurd (omega arith);
    }))

-- one token more
pub tally_next : (events : List Event) (j u f v g : ℕ) → AddsPut events (Opening j) u f v g → IsTally events (IsTokenBelow j) u f
    → IsTally events (IsTokenBelow (j + 1)) v g
tally_next events j u f v g adds is =
    tally_more events (IsTokenBelow j) (IsTokenBelow (j + 1)) (Opening j) u f v g is
    (λ h. let same : j ≡ h.0 = (let e = h.2 in cc) in let lt = h.1 in absurd (omega arith))
    (j, omega arith, refl)
    (λ name h. let lt = h.1 in (h.0, omega arith, h.2))
    (λ name h. elim (cases_eq h.0 j) [
      | inl is ↦ inl (sym (h.2 ∙ ap Opening is))
      | inr ne ↦ (let lt = h.1 in inr (h.0, omega arith, h.2))
    ])
    adds

pub tallies_none : (events : List Event) (tallies : List Tally) → tallies ≡ [] → AreTokenTallies events 0 tallies
tallies_none events tallies none = record { many = ap length none; below = λ j tally at. (let lt = slice_get_within tallies j tally at in let n = ap length none in absurd (omega arith)) }

-- one tally more
pub tallies_next : (events : List Event) (j : ℕ) (old new : List Tally) (tally : Tally) → new ≡ old ++ tally ∷ []
    → IsTally events (IsTokenBelow j) tally.ungot tally.claimed_from → AreTokenTallies events j old → AreTokenTallies events (j + 1) new
tallies_next events j old new tally push here is =
    let many = is.many in
    let one_more = ap length push ∙ length-append old (tally ∷ []) in
    record {
      many = omega arith;
      below = λ k t at.
          let there : slice_get (old ++ tally ∷ []) k ≡ Some t = subst (λ ts. slice_get ts k ≡ Some t) push at in
          let within = slice_get_within new k t at in
          elim (cases_eq k j) [
            | inl same ↦ (let last : slice_get (old ++ tally ∷ []) k ≡ Some tally = ap (slice_get (old ++ tally ∷ [])) (same ∙ sym many) ∙ pushed old tally in
                let mine : tally ≡ t = cc in
                subst (λ i. IsTally events (IsTokenBelow i) t.ungot t.claimed_from) (sym same)
                (subst (λ (z : Tally). IsTally events (IsTokenBelow j) z.ungot z.claimed_from) mine here))
            | inr ne ↦ is.below k t (sym (still old tally k (omega arith)) ∙ there)
          ];
    }

-- the one token that is got there decides
pub token_decides : (opening : List (List ℕ)) (events : List Event) (e number : ℕ) (b : Bool) → IsGetOfToken opening events e number
    → (IsTrue b ↔ AllClaimed events 0 e (IsTokenBelow number)) → IsTrue b ↔ IsTokenInOrderAt opening events e
token_decides opening events e number b here test = (
  λ t s j within get.
      let same : Opening number ≡ Opening j = same_name events e (Opening number) (Opening j)
      (names_from_get events (Opening number) here.s e here.get) (names_from_get events (Opening j) s e get) in
      let numbers : number ≡ j = cc in
      subst (λ n. AllClaimed events 0 e (IsTokenBelow n)) numbers (test.0 t),
  λ h. test.1 (h here.s number here.token here.get),
)

pub no_token : (opening : List (List ℕ)) (events : List Event) (e : ℕ) → NoTokenGotAt opening events e → IsTokenInOrderAt opening events e
no_token opening events e none s j within get = absurd (none.none j s within get)

pub tokens_past : (opening : List (List ℕ)) (events : List Event) (e : ℕ) → length events ≤ e → IsTokenInOrderAt opening events e
tokens_past opening events e past s j within get = let lt = slice_get_within events e (End get.seat (Got (Opening j) get.content)) get.call.ends in absurd (omega arith)
