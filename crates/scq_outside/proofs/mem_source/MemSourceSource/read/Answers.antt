use Rattle.std.proofs.Common.{IfOk, subst, ◌≡◌, ◌∙◌, sym, ap, ℕ, List, ◌≤◌, take, drop, length, ◌++◌, arith}
use Rattle.std.proofs.lemmas.List.{drop-append-le, take-append-drop}
use Rattle.scq_outside.proofs.mem_source.MemSourceSource.read.Goals as goal

-- what lies behind a part of a buffer's front that was written over
behind_part : (most k : ℕ) (old new : List ℕ) → k ≤ length new → k ≤ length (take most old) → drop k new ≡ drop k (take most old)
    → drop k (new ++ drop most old) ≡ drop k old
behind_part most k old new within low same =
    drop-append-le k new (drop most old) within ∙ ap (λ rest. rest ++ drop most old) same
    ∙ sym (drop-append-le k (take most old) (drop most old) low) ∙ ap (drop k) (take-append-drop most old)

pub returns-clause-behind : goal.returns-clause-behind
returns-clause-behind c =
    let most = c.in-Some.most in
    let into = c.args.into.now in
    rw c.read.ensures.takes (behind_part most _ into c.read.new.into (omega arith) (omega arith)
    (subst (λ r. IfOk r (λ k. drop k c.read.new.into ≡ drop k (take most into))) c.read.ensures.takes c.read.ensures.behind))
