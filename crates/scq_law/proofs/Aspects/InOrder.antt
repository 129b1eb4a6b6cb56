-- The history of a run is in order. Plan: a put that ended with Done before another of its queue started has the lower
-- place, for all places up to its own were drawn by then; so where the other was got, Head has passed the first.
use Rattle.std.proofs.Common.{◌≡◌, ℕ, ◌<◌, inl, inr, List, length, ap, sym, subst, arith}
use Rattle.std.proofs.lemmas.Bool.{cases_lt}
use Rattle.scq_word.specs.declared.setup.Setup.{Setup}
use Rattle.scq_word.specs.Exports.{n_of}
use Rattle.scq_hist.specs.Exports.{IsPut, IsInOrder, Precedes, AllClaimed}
use Rattle.scq_hist.proofs.Puts.{same_put}
use Rattle.scq_hist.specs.declared.events.PutName.{PutName}
use Rattle.scq_hist.specs.declared.events.PutName.TheVariants.{Of}
use Rattle.scq_law.specs.Exports.{Recorded}
use Rattle.scq_law.proofs.Base.Ghosts.{is_placed}
use Rattle.scq_law.proofs.Aspects.PlacedPuts.{NamesPut}
use Rattle.scq_law.proofs.Base.Based.{IsBased}
use Rattle.scq_law.proofs.Places.RecordsAgree.{RecordsAgree}
use Rattle.scq_law.proofs.Places.Throughout.{records_agree}
use Rattle.scq_law.proofs.Base.EventFacts.{stance}
use Rattle.scq_law.proofs.Aspects.FinishedPuts.{settled}
use Rattle.scq_law.proofs.Aspects.CoupledRuns.{IsRunTied, IsTiedRun}
use Rattle.scq_law.proofs.Aspects.ClaimedPuts.{taken_at, base, Ahead, all_claimed}

module _ (c : Setup) (opening : List (List ℕ)) (full : length opening ≡ n_of c.order) (recorded : Recorded) (tied_run : IsTiedRun c opening recorded) where
  abbrev t : IsRunTied c opening recorded tied_run.ghost
  t = tied_run.tied

  abbrev based : IsBased c tied_run.ghost recorded.state
  based = base c opening recorded tied_run

  abbrev records : RecordsAgree c tied_run.ghost recorded.state
  records = records_agree c tied_run.time tied_run.ghost recorded.state tied_run.trace

  pub in_order : IsInOrder opening recorded.events
  in_order e s seat number queue start content get put =
      let k = taken_at c opening recorded tied_run e get.seat (Of seat number) get.content get.call.ends in
      let named : IsPut recorded.events seat number k.r get.content (t.origin k.r k.h) =
      subst (λ z. NamesPut opening recorded.events z k.r get.content (t.origin k.r k.h)) k.named (t.placed.named k.r k.h k.index get.content k.maker k.is) in
      let same = same_put recorded.events seat number queue k.r start (t.origin k.r k.h) content get.content put named in
      let below : k.h < recorded.state.cells.head k.r =
      elim (cases_lt k.h (recorded.state.cells.head k.r)) [
        | inl less ↦ less
        | inr high ↦ let none = based.drawn.heads k.r k.h high in let took = k.took in absurd (cc)
      ] in
      let ahead : (name : PutName) → Precedes opening recorded.events k.r start name → Ahead c opening recorded tied_run k.r e name =
      λ name is.
      let a = settled c opening full recorded.events recorded.puts recorded.placer (stance recorded.state) recorded.state tied_run.ghost t based records k.r
      start name is in
      let started = same.start in
      let less : a.p < k.h =
      elim (cases_lt a.p k.h) [
        | inl less ↦ less
        | inr le ↦ let old = a.later k.h seat number (ap is_placed k.is) k.named le in absurd (omega arith)
      ] in
      record { p = a.p; is = a.is; named = a.named; low = omega arith; before = k.earlier a.p (omega arith) } in
      subst (λ q. AllClaimed recorded.events q e (Precedes opening recorded.events q start)) (sym same.queue)
      (all_claimed c opening recorded tied_run k.r e (Precedes opening recorded.events k.r start) ahead)
