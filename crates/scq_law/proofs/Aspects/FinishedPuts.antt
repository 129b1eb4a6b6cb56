-- A put that is finished has its place, and the puts placed up to there had started by then.
use Rattle.std.proofs.Common.{◌≡◌, ℕ, suc, ◌+◌, ◌-◌, ◌<◌, ◌≤◌, inl, inr, true, List, length, refl, ap, sym, subst, arith}
use Rattle.std.specs.Prelude.{Some, slice_get}
use Rattle.std.proofs.lemmas.Bool.{cases_lt}
use Rattle.std.proofs.lemmas.Option.{slice_get_within, get_or_from_slice_get}
use Rattle.scq_word.specs.declared.setup.Setup.{Setup}
use Rattle.scq_word.specs.Exports.{n_of}
use Rattle.scq_core.specs.declared.ended.Ended.TheVariants as ended
use Rattle.scq_core.specs.Exports.{ring_slots, Stance}
use Rattle.scq_core.specs.Machine.{Machine}
use Rattle.scq_hist.specs.Exports.{puts_before, IsPut, IsDoneAt, IsFinishedAt}
use Rattle.scq_hist.specs.declared.events.Call.TheVariants.{Put}
use Rattle.scq_hist.specs.declared.events.Event as history
use Rattle.scq_hist.specs.declared.events.Event.TheVariants.{Start}
use Rattle.scq_hist.specs.declared.events.PutName.{PutName}
use Rattle.scq_hist.specs.declared.events.PutName.TheVariants.{Opening, Of}
use Rattle.scq_law.specs.Exports.{call_of, IsFinished}
use Rattle.scq_law.proofs.Base.Ghosts.{Ghost, is_placed}
use Rattle.scq_law.proofs.Base.Based.{IsBased}
use Rattle.scq_law.proofs.Places.RecordsAgree.{RecordsAgree}
use Rattle.scq_law.proofs.Aspects.PlacedPuts.{NamesPut}
use Rattle.scq_law.proofs.Aspects.Coupling.{IsTied, calls_of}

module _ (c : Setup) (opening : List (List ℕ)) (full : length opening ≡ n_of c.order) (events : List history.Event) (begun : ℕ → ℕ) (placer : ℕ → ℕ → PutName)
    (stance : ℕ → Stance) (m : Machine) (g : Ghost) (t : IsTied c opening events begun placer stance (calls_of m) g) (based : IsBased c g m)
    (records : RecordsAgree c g m) where
  -- the place of a put that is finished at a moment: an opening token's, or that of a put that ended with Done, as the
  -- record of its seat has it. The puts placed up to there started before it
  pub record Settled (queue moment : ℕ) (name : PutName) : Type 0 where
    pub p : ℕ
    pub is : is_placed (g.puts queue p) ≡ true
    pub named : placer queue p ≡ name
    pub finished : IsFinished c m queue p
    pub later : (u k n : ℕ) → is_placed (g.puts queue u) ≡ true → placer queue u ≡ Of k n → u ≤ p → t.origin queue u < moment

  -- an opening token
  settled_token : (moment j : ℕ) → j < length opening → Settled 0 moment (Opening j)
  settled_token moment j less =
      let token = t.placed.stood j (omega arith) in
      record {
        p = ring_slots c + j;
        is = token.is;
        named = token.name;
        finished = inr (record { ring = refl; first = omega arith; last = omega arith });
        later =
            λ u k n there name le.
            elim (cases_lt u (ring_slots c)) [
              | inl low ↦ let none = ap is_placed (based.drawn.put_first 0 u low) in absurd (cc)
              | inr first ↦
                  let back : ring_slots c + (u - ring_slots c) ≡ u = omega arith in
                  let at = (t.placed.stood (u - ring_slots c) (omega arith)).name in
                  let here : placer 0 u ≡ Opening (u - ring_slots c) = rw back at at in
                  absurd (cc)
            ];
      }

  -- a put that ended with Done
  settled_done : (queue moment d k n : ℕ) → d < moment → IsDoneAt events queue d k n → Settled queue moment (Of k n)
  settled_done queue moment d k n less done =
      let l = t.placed.done d k done.call.ends in
      let under = l.under in
      let till = done.call.under_way_till in
      let start : done.s ≡ t.origin l.r l.p = cc in
      let named : IsPut events k l.n l.r l.content (t.origin l.r l.p) =
      subst (λ z. NamesPut opening events z l.r l.content (t.origin l.r l.p)) l.name (t.placed.named l.r l.p l.index l.content (call_of k l.number) l.is) in
      let a = done.put.starts in
      let b : slice_get events done.s ≡ Some (Start k (Put l.r l.content)) = rw start named.starts in
      let ring : l.r ≡ queue = cc in
      let count_a = done.put.counted in
      let count_b : l.n ≡ suc (puts_before events k done.s) = rw start named.counted in
      let number : l.n ≡ n = omega arith in
      let number_low = l.ended in
      let x = ended.Done l.r l.p l.content in
      let source : slice_get (m.part k).calls l.number ≡ Some x =
      elim (records.made l.r l.p l.index l.content k l.number l.is) [
        | inl at ↦ at
        | inr lands ↦ let last = lands.0 in absurd (omega arith)
      ] in
      let here : Settled l.r moment (Of k l.n) =
      record {
        p = l.p;
        is = ap is_placed l.is;
        named = l.name;
        finished = inl (record {
          seat = k;
          content = l.content;
          ended =
              (l.number, slice_get_within (m.part k).calls l.number x source, get_or_from_slice_get (m.part k).calls l.number x x source);
        });
        later = λ u j y there name le. let old = l.later u le in omega arith;
      } in
      subst (λ z. Settled z moment (Of k n)) ring (subst (λ z. Settled l.r moment (Of k z)) number here)

  pub settled : (queue moment : ℕ) (name : PutName) → IsFinishedAt opening events queue moment name → Settled queue moment name
  settled queue moment (Opening j) is = subst (λ z. Settled z moment (Opening j)) (sym is.0) (settled_token moment j is.1)
  settled queue moment (Of k n) is = settled_done queue moment is.0 k n is.1 is.2
