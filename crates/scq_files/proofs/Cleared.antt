-- Files that are taken off desks: where no fault is found among them, each was read to its end.
use Rattle.std.proofs.Common.{◌≡◌, refl, sym, ap, subst, arith, ℕ, ◌<◌, List, [], ◌∷◌, ◌++◌, length, set, get_or, get_or-set_same, get_or-set_other, inl, inr, Option, Some, None}
use Rattle.std.specs.Prelude.{slice_index_or}
use Rattle.std.specs.List.{All}
use Rattle.std.specs.Option.{option_or}
use Rattle.std.proofs.lemmas.Bool.{cases_eq}
use Rattle.std.proofs.lemmas.List.{length-set, length-map, get_or_default}
use Rattle.std.proofs.lemmas.List.Elements.{All-push}
use Rattle.scq_frames.specs.declared.fault.FrameFault.{FrameFault}
use Rattle.scq_files.specs.Exports.{AllWhole, AreDealt, end_fault}
use Rattle.scq_files.specs.declared.desk.Desk.{Desk}
use Rattle.scq_files.specs.declared.own_file.FileEnd.{FileEnd}
use Rattle.scq_files.specs.declared.own_file.FileEnd.TheVariants.{Unread, Whole, Stopped}
use Rattle.scq_files.specs.declared.own_file.OwnFile.{OwnFile}

abbrev pub IsWholeFile : {S : Type 0} → OwnFile S → Type 0
IsWholeFile f = f.end ≡ Whole

-- a file without a fault was read to its end
whole-end : (first : Option (ℕ × FrameFault)) (number : ℕ) (end : FileEnd) → option_or first (end_fault number end) ≡ None → (first ≡ None) × (end ≡ Whole)
whole-end (Some f) number end none = absurd (cc)
whole-end None number Unread none = absurd (cc)
whole-end None number Whole none = (refl, refl)
whole-end None number (Stopped fault) none = absurd (cc)

-- a file is taken off a desk
pub whole-more : {W S : Type 0} {Q : Type 0} (desks : List (Desk W S)) (j : ℕ) (new d : Desk W S) (file : OwnFile S) (first : Option (ℕ × FrameFault))
    → j < length desks
    → (get_or desks j d).files.items ≡ new.files.items ++ file ∷ [] → option_or first (end_fault file.number file.end) ≡ None
    → (first ≡ None → AllWhole desks → Q) → AllWhole (set desks j new) → Q
whole-more {W} {S} desks j new d file first within is none so each =
    let parts = whole-end first file.number file.end none in
    let long = length-set desks j new in
    let mine : All IsWholeFile (get_or desks j d).files.items =
    subst (λ (fs : List (OwnFile S)). All IsWholeFile fs) (sym is)
    (All-push IsWholeFile new.files.items file
    (subst (λ (e : Desk W S). All IsWholeFile e.files.items) (get_or-set_same desks j new d within) (each j d (omega (arith, within, long)))) parts.1) in
    so parts.0 (λ k e less. elim (cases_eq k j) [
      | inl same ↦
          subst (λ i. All IsWholeFile (slice_index_or desks i e).files.items) (sym same)
          (subst (λ (f : Desk W S). All IsWholeFile f.files.items) (get_or_default desks j d e within) mine)
      | inr apart ↦ subst (λ (f : Desk W S). All IsWholeFile f.files.items) (get_or-set_other desks j k new e apart) (each k e (omega (arith, less, long)))
    ])

-- desks to which nothing was dealt have no files
pub none-left : {W S : Type 0} (at : ℕ) (desks : List (Desk W S)) → AreDealt at [] desks → AllWhole desks
none-left {W} {S} at desks dealt k d less j e inside =
    let id : OwnFile S → ℕ × S = λ f. (f.number, f.was.value) in
    let none = ap length (dealt k d less) in
    absurd (omega (arith, none, inside, length-map (slice_index_or desks k d).files.items id))
