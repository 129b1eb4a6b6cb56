-- The lines of workers, one worker after the other, and how they are written.
use Rattle.std.proofs.Common.{◌≡◌, ◌∙◌, sym, ap, subst, arith, zero, suc, ℕ, ◌+◌, ◌<◌, ◌≤◌, List, [], ◌∷◌, ◌++◌, Option, length, take, drop, get_or, append_assoc}
use Rattle.std.proofs.lemmas.List.{append-nil, take_all}
use Rattle.scq_collect.specs.declared.answered.Answered.{Answered}
use Rattle.scq_queue.specs.declared.counts.Counts.{Counts}
use Rattle.scq_service.specs.Exports.{worker_line, worker_lines, written_with, WrotePart}
use Rattle.scq_service.proofs.Writings.{part-first, part-second, written-then}

-- the lines of the first workers, that of the next, and those of the others
lines-split : (number : ℕ) (counts : List (Counts × List Answered)) (i n : ℕ) (d : Counts × List Answered) → i < length counts → n ≡ number + i
    → worker_lines number counts ≡ worker_lines number (take i counts) ++ (worker_line n (get_or counts i d) ++ worker_lines (n + 1) (drop (suc i) counts))
lines-split number [] i n d within at = absurd (omega arith)
lines-split number (x ∷ xs) zero n d within at =
    let same : number ≡ n = omega arith in
    ap (λ k. worker_line k x ++ worker_lines (k + 1) xs) same
lines-split number (x ∷ xs) (suc i) n d within at =
    ap (λ (rest : List ℕ). worker_line number x ++ rest) (lines-split (number + 1) xs i n d (omega arith) (omega arith))
    ∙ sym (append_assoc (worker_line number x) (worker_lines (number + 1) (take i xs))
    (worker_line n (get_or xs i d) ++ worker_lines (n + 1) (drop (suc i) xs)))

lines-next : (number : ℕ) (counts : List (Counts × List Answered)) (i n : ℕ) (d : Counts × List Answered) → i < length counts → n ≡ number + i
    → worker_lines number (take (suc i) counts) ≡ worker_lines number (take i counts) ++ worker_line n (get_or counts i d)
lines-next number [] i n d within at = absurd (omega arith)
lines-next number (x ∷ xs) zero n d within at =
    let same : number ≡ n = omega arith in
    append-nil (worker_line number x) ∙ ap (λ k. worker_line k x) same
lines-next number (x ∷ xs) (suc i) n d within at =
    ap (λ (rest : List ℕ). worker_line number x ++ rest) (lines-next (number + 1) xs i n d (omega arith) (omega arith))
    ∙ sym (append_assoc (worker_line number x) (worker_lines (number + 1) (take i xs)) (worker_line n (get_or xs i d)))

-- the lines of the first workers are written, and that of the next
pub whole-worker : (old mid new : Option (List ℕ)) (counts : List (Counts × List Answered)) (i n : ℕ) (d : Counts × List Answered) → i < length counts → n ≡ 1 + i
    → mid ≡ written_with old (worker_lines 1 (take i counts)) → new ≡ written_with mid (worker_line n (get_or counts i d))
    → new ≡ written_with old (worker_lines 1 (take (i + 1) counts))
whole-worker old mid new counts i n d within at before now =
    let next : suc i ≡ i + 1 = omega arith in
    let line = worker_line n (get_or counts i d) in
    now ∙ ap (λ (w : Option (List ℕ)). written_with w line) before ∙ written-then old (worker_lines 1 (take i counts)) line
    ∙ ap (written_with old) (sym (lines-next 1 counts i n d within at) ∙ ap (λ k. worker_lines 1 (take k counts)) next)

-- or a part of it
pub part-worker : (old mid new : Option (List ℕ)) (all : List ℕ) (counts : List (Counts × List Answered)) (i n : ℕ) (d : Counts × List Answered) → i < length counts → n ≡ 1 + i
    → mid ≡ written_with old (worker_lines 1 (take i counts)) → WrotePart mid new (worker_line n (get_or counts i d))
    → WrotePart old new (worker_lines 1 counts ++ all)
part-worker old mid new all counts i n d within at before part =
    let first = worker_lines 1 (take i counts) in
    let line = worker_line n (get_or counts i d) in
    let others = worker_lines (n + 1) (drop (suc i) counts) in
    let P : List ℕ → Type 0 = λ bytes. WrotePart old new bytes in
    let same : first ++ (line ++ (others ++ all)) ≡ worker_lines 1 counts ++ all =
    ap (λ (rest : List ℕ). first ++ rest) (sym (append_assoc line others all)) ∙ sym (append_assoc first (line ++ others) all)
    ∙ ap (λ (lines : List ℕ). lines ++ all) (sym (lines-split 1 counts i n d within at)) in
    subst P same (part-second old mid new first (line ++ (others ++ all)) before (part-first mid new line (others ++ all) part))

-- the lines of all workers are written
pub whole-workers : (old mid : Option (List ℕ)) (counts : List (Counts × List Answered)) (i : ℕ) → length counts ≤ i
    → mid ≡ written_with old (worker_lines 1 (take i counts)) → mid ≡ written_with old (worker_lines 1 counts)
whole-workers old mid counts i past before = before ∙ ap (λ (first : List (Counts × List Answered)). written_with old (worker_lines 1 first)) (take_all i counts past)
