-- Where a get ended with Nothing, or is leaving, it had seen at a moment of its call that each finished put's place had
-- been drawn by a get. Kept while the history grows and tickets go on.
use Rattle.std.proofs.Common.{◌≡◌, ◌≢◌, ℕ, suc, ◌<◌, ◌≤◌, ◌⊎◌, inl, inr, true, List, [], ◌∷◌, ◌++◌, length, ap, sym, ◌∙◌, subst, arith}
use Rattle.std.specs.Prelude.{Some, slice_get}
use Rattle.std.proofs.lemmas.Option.{slice_get_within}
use Rattle.scq_hist.specs.Exports.{under_way, IsDoneAt, IsFinishedAt}
use Rattle.scq_hist.proofs.UnderWay.{started}
use Rattle.scq_hist.specs.declared.events.Call.TheVariants.{Get}
use Rattle.scq_hist.specs.declared.events.Event.{Event}
use Rattle.scq_hist.specs.declared.events.Event.TheVariants.{Start, End}
use Rattle.scq_hist.specs.declared.events.PutName.{PutName}
use Rattle.scq_hist.specs.declared.events.PutName.TheVariants.{Opening, Of}
use Rattle.scq_hist.specs.declared.events.Reply.TheVariants.{Nothing}
use Rattle.scq_law.proofs.Base.Ghosts.{PutState, GetState, unopened, is_placed}
use Rattle.scq_core.specs.Exports.{Stance, gave_up}
use Rattle.scq_law.proofs.Aspects.GrowingHistory.{under_now, at_grown, old_at, kept_at, under_old, puts_old, length_grown, seat_of, under_else}

-- what is finished at an old moment was so before
done_old : (events : List Event) (x : Event) (queue d k n : ℕ) → d < length events → IsDoneAt (events ++ x ∷ []) queue d k n → IsDoneAt events queue d k n
done_old events x queue d k n low done =
    let call = done.call in
    let start = started (events ++ x ∷ []) k d done.s call.under_way_till in
    let before = start.before in
    record {
      s = done.s;
      content = done.content;
      put =
          record {
            starts = sym (old_at events x done.s (omega arith)) ∙ done.put.starts;
            counted = done.put.counted ∙ ap suc (puts_old events x k done.s (omega arith));
          };
      call =
          record {
            starts = sym (old_at events x done.s (omega arith)) ∙ call.starts;
            under_way_till = sym (under_old events x k d (omega arith)) ∙ call.under_way_till;
            ends = sym (old_at events x d low) ∙ call.ends;
          };
    }

pub finished_old : (opening : List (List ℕ)) (events : List Event) (x : Event) (queue m : ℕ) (name : PutName) → m ≤ length events
    → IsFinishedAt opening (events ++ x ∷ []) queue m name → IsFinishedAt opening events queue m name
finished_old opening events x queue m (Opening j) low is = is
finished_old opening events x queue m (Of k n) low is =
    let less = is.1 in
    (is.0, less, done_old events x queue is.0 k n (omega arith) is.2)

-- the put's place was drawn by a get that started before moment m
pub record Passed (placer : ℕ → ℕ → PutName) (puts : ℕ → ℕ → PutState) (gets : ℕ → ℕ → GetState) (since : ℕ → ℕ → ℕ) (r m : ℕ) (name : PutName) : Type 0 where
  pub p : ℕ
  pub is : is_placed (puts r p) ≡ true
  pub named : placer r p ≡ name
  pub drawn : gets r p ≢ unopened
  pub before : since r p < m

-- a get of the ring that has seen this and goes on to end
pub record Emptying (opening : List (List ℕ)) (events : List Event) (placer : ℕ → ℕ → PutName) (puts : ℕ → ℕ → PutState) (gets : ℕ → ℕ → GetState)
    (since : ℕ → ℕ → ℕ) (k r : ℕ) : Type 0 where
  pub m : ℕ
  pub low : m ≤ length events
  pub after : (s : ℕ) → under_now events k ≡ Some s → s < m
  pub passed : (name : PutName) → IsFinishedAt opening events r m name → Passed placer puts gets since r m name

-- a get that has ended so
pub record Emptied (opening : List (List ℕ)) (events : List Event) (placer : ℕ → ℕ → PutName) (puts : ℕ → ℕ → PutState) (gets : ℕ → ℕ → GetState)
    (since : ℕ → ℕ → ℕ) (e k : ℕ) : Type 0 where
  pub r : ℕ
  pub s : ℕ
  pub m : ℕ
  pub starts : slice_get events s ≡ Some (Start k (Get r))
  pub under : under_way events k e ≡ Some s
  pub after : s < m
  pub till : m ≤ e
  pub passed : (name : PutName) → IsFinishedAt opening events r m name → Passed placer puts gets since r m name

pub record IsEmptied (opening : List (List ℕ)) (events : List Event) (placer : ℕ → ℕ → PutName) (stance : ℕ → Stance) (puts : ℕ → ℕ → PutState)
    (gets : ℕ → ℕ → GetState) (since : ℕ → ℕ → ℕ) : Type 0 where
  pub ends : (e k : ℕ) → slice_get events e ≡ Some (End k Nothing) → Emptied opening events placer puts gets since e k
  pub leaves : (k r h : ℕ) → stance k ≡ gave_up r h true → Emptying opening events placer puts gets since k r

module _ (opening : List (List ℕ)) (events : List Event) (placer : ℕ → ℕ → PutName) (stance : ℕ → Stance) (puts : ℕ → ℕ → PutState) (gets : ℕ → ℕ → GetState)
    (since : ℕ → ℕ → ℕ) (was : IsEmptied opening events placer stance puts gets since) where
  -- an event is recorded
  pub emptied_grown : (x : Event) (stance2 : ℕ → Stance) → ((k r h : ℕ) → stance2 k ≡ gave_up r h true → (stance k ≡ gave_up r h true) × (seat_of x ≢ k))
      → ((k : ℕ) → x ≡ End k Nothing → Emptied opening (events ++ x ∷ []) placer puts gets since (length events) k)
      → IsEmptied opening (events ++ x ∷ []) placer stance2 puts gets since
  emptied_grown x stance2 old new =
      record {
        ends =
            λ e k at.
            elim (at_grown events x e (End k Nothing) at) [
              | inl there ↦
                  let z = was.ends e k there in
                  let low = slice_get_within events e (End k Nothing) there in
                  let till = z.till in
                  record { r = z.r; s = z.s; m = z.m; starts = kept_at events x z.s _ z.starts; under = under_old events x k e (omega arith) ∙ z.under; after = z.after; till = z.till; passed = λ name is. z.passed name (finished_old opening events x z.r z.m name (omega arith) is) }
              | inr here ↦ subst (λ d. Emptied opening (events ++ x ∷ []) placer puts gets since d k) (sym here.0) (new k here.1)
            ];
        leaves =
            λ k r h stands.
            let o = old k r h stands in
            let z = was.leaves k r h o.0 in
            let low = z.low in
            record {
              m = z.m;
              low = (let long = length_grown events x in omega arith);
              after = λ s under. z.after s (sym (under_else events x k o.1) ∙ under);
              passed = λ name is. z.passed name (finished_old opening events x r z.m name low is);
            };
      }

  -- tickets and stances go on
  pub emptied_kept : (placer2 : ℕ → ℕ → PutName) (stance2 : ℕ → Stance) (puts2 : ℕ → ℕ → PutState) (gets2 : ℕ → ℕ → GetState) (since2 : ℕ → ℕ → ℕ)
      → ((r p : ℕ) → is_placed (puts r p) ≡ true → (is_placed (puts2 r p) ≡ true) × (placer2 r p ≡ placer r p))
      → ((r p : ℕ) → gets r p ≢ unopened → (gets2 r p ≢ unopened) × (since2 r p ≡ since r p))
      → ((k r h : ℕ) → stance2 k ≡ gave_up r h true → (stance k ≡ gave_up r h true) ⊎ Emptying opening events placer2 puts2 gets2 since2 k r)
      → IsEmptied opening events placer2 stance2 puts2 gets2 since2
  emptied_kept placer2 stance2 puts2 gets2 since2 full drawn leave =
      record {
        ends =
            λ e k at.
            let z = was.ends e k at in
            record { r = z.r; s = z.s; m = z.m; starts = z.starts; under = z.under; after = z.after; till = z.till; passed = λ name is. still z.r z.m name (z.passed name is) };
        leaves =
            λ k r h stands.
            elim (leave k r h stands) [
              | inl old ↦
                  let z = was.leaves k r h old in
                  record { m = z.m; low = z.low; after = z.after; passed = λ name is. still r z.m name (z.passed name is) }
              | inr new ↦ new
            ];
      }
    where
      still : (r m : ℕ) (name : PutName) → Passed placer puts gets since r m name → Passed placer2 puts2 gets2 since2 r m name
      still r m name z =
          let f = full r z.p z.is in
          let d = drawn r z.p z.drawn in
          let before = z.before in
          record { p = z.p; is = f.0; named = f.1 ∙ z.named; drawn = d.0; before = subst (λ v. v < m) (sym d.1) before }
