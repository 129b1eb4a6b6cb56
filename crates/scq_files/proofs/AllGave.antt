-- The files of all desks once their workers have left: they are those of the sources, each once. So what the workers passed on is what the
-- sources gave, and that is little, however the reading of each ended.
use Rattle.std.proofs.Common.{◌≡◌, refl, sym, ◌∙◌, ap, subst, inl, inr, arith, zero, suc, ℕ, ◌+◌, ◌*◌, ◌^◌, ◌<◌, ◌≤◌, List, [], ◌∷◌, ◌++◌, length, map, reverse, get_or, Option, Some, None}
use Rattle.std.specs.Prelude.{slice_get, flat_map, sum_by}
use Rattle.std.specs.List.{All, AllZip}
use Rattle.std.specs.List.Sorted.{IsPermutation}
use Rattle.std.proofs.lemmas.List.{reverse-reverse}
use Rattle.std.proofs.lemmas.List.Concat.{length-flat_map}
use Rattle.std.proofs.lemmas.List.Sums.{sum_by-append, sum_by-cons}
use Rattle.std.proofs.lemmas.List.Sorted.{All-permutation, IsPermutation-reverse, sum_by-IsPermutation}
use Rattle.std.proofs.lemmas.Option.{slice_get-get_or, slice_get_within, slice_get_cases}
use Rattle.scq_topics.specs.declared.kind.Kind.{Kind}
use Rattle.scq_frames.specs.declared.message.Message.{Message}
use Rattle.scq_files.specs.Exports.{AllWhole, AreDealt, all_given, ids_of, AreGiven, FileGave, files_of, own_of, OfEachFile, given_in, IsRead}
use Rattle.scq_files.specs.Exports.{AreRead, GaveAll, most_parts, SourceOf}
use Rattle.scq_files.specs.declared.desk.Desk.{Desk}
use Rattle.scq_files.specs.declared.own_file.OwnFile.{OwnFile}
use Rattle.scq_files.proofs.Cleared.{IsWholeFile}
use Rattle.std.proofs.lemmas.List.Folds.{flat_map-map}
use Rattle.scq_files.proofs.Dealt.{upto, seconds, all-dealt, collected}
use Rattle.scq_files.proofs.Lists.{map-reverse}

-- what a file gave, and that it is not much: all of its messages where W holds, which says that all files were read to their ends
pub record Gave {S : Type 0} (topics : List (List ℕ × Kind)) (size : ℕ) (left : S → Option (List ℕ)) (W : Type 0) (f : ℕ × S) (own : List Message) : Type 0
  where
    pub whole : W → FileGave topics size left f.0 f.1 own
    pub few : sum_by most_parts own ≤ 2 ^ 30

abbrev pub given_of : {S : Type 0} → OwnFile S → List Message
given_of f = given_in f.given.value

-- files that were read, with what they gave
files-gave : {S : Type 0} (topics : List (List ℕ × Kind)) (size : ℕ) (src : SourceOf S) (W : Type 0) (files : List (OwnFile S))
    → AreRead topics size src files → (W → All IsWholeFile files)
    → AllZip (Gave topics size src.left W) (ids_of files) (map given_of files)
files-gave topics size src W [] read whole = tt
files-gave {S} topics size src W (f ∷ files) read whole =
    let its = read zero f (omega arith) in (
      record {
        whole = λ w. record {
          of = its.all;
          short = its.short;
          all = subst (λ e. GaveAll topics f.number (src.left f.was.value) e (given_of f)) (whole w zero f (omega arith)) its.gave;
        };
        few = its.few;
      },
      files-gave topics size src W files (λ k d less. read (suc k) d (omega arith)) (λ w k d less. whole w (suc k) d (omega arith)),
    )

-- the lists of files, one behind the other
flat-lists : {X A : Type 0} (f : X → List A) (xs : List X) → flat_map (λ l. l) (map f xs) ≡ flat_map f xs
flat-lists f xs = flat_map-map (λ (l : List _). l) f xs

-- what is made of each of several by its number
pub by-number : {X A : Type 0} (f : X → List A) (m : ℕ → List A) (xs : List X) (from : ℕ) → ((k : ℕ) (d : X) → k < length xs → f (get_or xs k d) ≡ m (from + k))
    → flat_map f xs ≡ flat_map m (upto from (length xs))
by-number f m [] from each = refl
by-number f m (x ∷ xs) from each =
    let at : from + zero ≡ from = omega arith in
    let here : f x ≡ m from = each zero x (omega arith) ∙ ap m at in
    let rest = by-number f m xs (from + 1) (λ k d less. each (suc k) d (omega arith) ∙ ap m (next k)) in
    ap (λ l. l ++ flat_map f xs) here ∙ ap (λ l. m from ++ l) rest
  where
    next : (k : ℕ) → from + suc k ≡ from + 1 + k
    next k = omega arith

-- few parts of each of few files are few
few-given : {S : Type 0} (topics : List (List ℕ × Kind)) (size : ℕ) (left : S → Option (List ℕ)) (W : Type 0) (file : ℕ) (sources : List S)
    (given : List (List Message))
    → OfEachFile (Gave topics size left W) file sources given → sum_by most_parts (flat_map (λ own. own) given) ≤ length sources * 2 ^ 30
few-given topics size left W file [] [] gave = omega arith
few-given topics size left W file [] (own ∷ more) gave = absurd gave
few-given topics size left W file (x ∷ xs) [] gave = absurd gave
few-given topics size left W file (x ∷ xs) (own ∷ more) gave =
    let rest = few-given topics size left W (file + 1) xs more gave.1 in
    omega (arith, rest, gave.0.few, sum_by-append most_parts own (flat_map (λ own. own) more))

-- so many messages are few, where so many parts would be
messages-spread : (ms : List Message) → length ms ≤ sum_by most_parts ms
messages-spread [] = omega arith
messages-spread (m ∷ ms) =
    let rest = messages-spread ms in
    omega (arith, rest, sum_by-cons most_parts m ms)

all-gave : {S : Type 0} (topics : List (List ℕ × Kind)) (size : ℕ) (left : S → Option (List ℕ)) (W : Type 0) (file : ℕ) (sources : List S)
    (given : List (List Message))
    → OfEachFile (Gave topics size left W) file sources given → W → AreGiven topics size left file sources given
all-gave topics size left W file [] [] gave w = tt
all-gave topics size left W file [] (own ∷ more) gave w = absurd gave
all-gave topics size left W file (x ∷ xs) [] gave w = absurd gave
all-gave topics size left W file (x ∷ xs) (own ∷ more) gave w = (gave.0.whole w, all-gave topics size left W (file + 1) xs more gave.1 w)

module _ {W S : Type 0} where
  -- the messages that a worker passed on
  abbrev pub worker_messages : Desk W S → List Message
  worker_messages d = all_given d.files.items

  -- the workers have left: each had its own of the files, and read them, however the reading of these ended
  pub record AllRead (topics : List (List ℕ × Kind)) (size : ℕ) (src : SourceOf S) (sources : List S) (desks : List (Desk W S)) : Type 0 where
    pub some : 0 < length desks
    pub few : length sources ≤ 64
    pub dealt : AreDealt 1 sources desks
    pub read : All (λ d. AreRead topics size src d.files.items) desks

  module _ (topics : List (List ℕ × Kind)) (size : ℕ) (src : SourceOf S) (sources : List S)
      (desks : List (Desk W S)) (ran : AllRead topics size src sources desks) where
    -- of a desk: its files in their order, and what they gave
    abbrev files_in : Option (Desk W S) → List (OwnFile S)
    files_in None = []
    files_in (Some d) = reverse d.files.items

    abbrev files_at : ℕ → List (OwnFile S)
    files_at w = files_in (slice_get desks w)

    abbrev given_at : ℕ → List (List Message)
    given_at w = map given_of (files_at w)

    desk-gave : (w : ℕ) → w < length desks → AllZip (Gave topics size src.left (AllWhole desks)) (files_of (length desks) w 1 sources) (given_at w)
    desk-gave w less = elim (slice_get_cases desks w).1 [
      | inl (d, within, is, here) ↦
          let its = subst (λ (e : Desk W S). AreRead topics size src e.files.items) here (ran.read w d less) in
          let whole : (all : AllWhole desks) → All IsWholeFile d.files.items = λ all.
          subst (λ (e : Desk W S). All IsWholeFile e.files.items) here (all w d less) in
          let dealt = ap (λ (e : Desk W S). ids_of e.files.items) (sym here) ∙ ran.dealt w d less in
          let files = d.files.items in
          let turned = IsPermutation-reverse files in
          let ids : ids_of (reverse files) ≡ files_of (length desks) w 1 sources =
          map-reverse (λ (f : OwnFile S). (f.number, f.was.value)) files ∙ ap reverse dealt ∙ reverse-reverse (files_of (length desks) w 1 sources) in
          let gave = files-gave topics size src (AllWhole desks) (reverse files)
          (All-permutation (λ (f : OwnFile S). IsRead topics size src f.number f.was.value f.source (given_of f) f.end)
          files (reverse files) turned its)
          (λ all. All-permutation IsWholeFile files (reverse files) turned (whole all)) in
          let mine : given_at w ≡ map given_of (reverse files) = ap (λ o. map given_of (files_in o)) is in
          subst (λ l. AllZip (Gave topics size src.left (AllWhole desks)) (files_of (length desks) w 1 sources) l) (sym mine)
          (subst (λ l. AllZip (Gave topics size src.left (AllWhole desks)) l (map given_of (reverse files))) ids gave)
      | inr (past, none) ↦ absurd (omega arith)
    ]

    -- what the files gave, file by file
    pub gathered : (given : List (List Message)) × OfEachFile (Gave topics size src.left (AllWhole desks)) 1 sources given
        × ((w : ℕ) → w < length desks → seconds (files_of (length desks) w 1 given) ≡ given_at w)
    gathered = collected (Gave topics size src.left (AllWhole desks)) (length desks) 1 sources given_at ran.some desk-gave

    abbrev pub given : List (List Message)
    given = gathered.0

    pub is-given : AllWhole desks → AreGiven topics size src.left 1 sources given
    is-given whole = all-gave topics size src.left (AllWhole desks) 1 sources given gathered.1 whole

    -- a worker passed on what its files gave
    pub own-given : (w : ℕ) (d : Desk W S) → slice_get desks w ≡ Some d → worker_messages d ≡ own_of (length desks) w 1 given
    own-given w d is =
        let less : w < length desks = slice_get_within desks w d is in
        let lists : seconds (files_of (length desks) w 1 given) ≡ given_at w = gathered.2 w less in
        let mine : given_at w ≡ map given_of (reverse d.files.items) = ap (λ o. map given_of (files_in o)) is in
        sym (flat-lists given_of (reverse d.files.items)) ∙ ap (flat_map (λ l. l)) (sym mine) ∙ ap (flat_map (λ l. l)) (sym lists)
        ∙ flat-lists (λ (f : ℕ × List Message). f.1) (files_of (length desks) w 1 given)

    -- the messages of all workers are those of all files, in some order
    pub all-messages : IsPermutation (flat_map (λ own. own) given) (flat_map worker_messages desks)
    all-messages =
        let each = by-number worker_messages (λ w. own_of (length desks) w 1 given) desks 0 (λ k d less.
        own-given k (get_or desks k d) (slice_get-get_or desks k d less) ∙ ap (λ j. own_of (length desks) j 1 given) (plain k)) in
        subst (IsPermutation (flat_map (λ own. own) given)) (sym each) (all-dealt (length desks) 1 given ran.some)
      where
        plain : (k : ℕ) → k ≡ 0 + k
        plain k = omega arith

    -- and they are few: so few parts could be made of them
    pub few-parts-in-all : sum_by most_parts (flat_map worker_messages desks) ≤ 2 ^ 36
    few-parts-in-all =
        let few = few-given topics size src.left (AllWhole desks) 1 sources given gathered.1 in
        let same = sum_by-IsPermutation most_parts (flat_map (λ own. own) given) (flat_map worker_messages desks) all-messages in
        let files = ran.few in
        omega (arith, few, same, files)

    pub few-in-all : sum_by (λ (d : Desk W S). length (worker_messages d)) desks ≤ 2 ^ 36
    few-in-all =
        let few = few-parts-in-all in
        let spread = messages-spread (flat_map worker_messages desks) in
        let all = length-flat_map worker_messages desks in
        omega (arith, few, spread, all)
