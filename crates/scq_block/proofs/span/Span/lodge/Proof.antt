-- `lodge` hands the bytes to std's function of that name. Assumes `Logic`.
use Rattle.std.proofs.Common.{◌≡◌, ℕ, ◌^◌, ◌<◌, List, [], ◌∷◌, ◌++◌, length, refl, sym, ap, ◌∙◌, subst, Vec}
use Rattle.std.proofs.alloc.Calls.{Goes-blank}
use Rattle.std.proofs.raw_atomic.Walks.{proved_at}
use Rattle.std_alloc.specs.declared.vec.lodged.Lodged.{Lodged}
use Rattle.std_alloc.proofs.vec.lodge.Met as callee
use Rattle.bytes.proofs.Walks.{Good, none, none_had, tells}
use Rattle.bytes.proofs.Lodging.{byte_laws, Housed, housed-laws, Lodges, at_lodge, IsLodged, lodge_goes, lodge_gives}
use mir.Syntax.{w64, seq, assign, place, rv_opd, copy, return}
use mir.Val.{Val, vptr, vint}
use prog.Wp.{WpFn}
use base.Logic.{id⊢, never}
use contract.Monad.{fact}
use contract.Running.{tables, tables_of}
use sound.WpLaws.{fm_of}
use types.Kit.{‵, raw, ◌⊛◌, some, later, given, prop, at_ret, ◌$◌, ◌∵◌, !, qed, move, drop as lets, use1, split, fsplit, fjoin, pick, learn, await, regoal, rewrite, suffices, done}
use types.Run.{enter, returns, of_opd, and_then, no_more, first, blocks, exec}
use types.ByLocal.{alloc_all, pass_all, free_all, look_at, get, sets, lands_last, env}
use denote.Builtin.{u8, usize, RawPtr}
use denote.Exit.{yes}
use denote.RattleType.{owns}
use denote.RawPtr.{ptr_val, in_a_block}
use denote.Signature.{plain, types_at}
use denote.Steps.{nothing, heard, only}
use denote.Triple.Call.{calls_at_last}
use denote.Triple.Entry.{alive}
use denote.Triple.Walked.{says, Stays, stay_dropped, walk_of, ends_at}
use Rattle.bytes.specs.Ownership.{run_owns}
use Rattle.scq_block.specs.contracts.span.Span as Span
use Rattle.scq_block.specs.contracts.span.Span.lodge as F
use Rattle.scq_block.specs.contracts.span.Span.lodge.Key.{name as #self}
use Rattle.scq_block.proofs.span.Span.lodge.Statement.{statement}
use Rattle.scq_block.proofs.span.Span.lodge.Code as code

abbrev stayed : Stays F.ended.signature.params F.ended.kept
stayed = (stay_dropped (plain (λ _. Span.the_row)) yes, (stay_dropped (plain (λ _. RawPtr)) yes, (stay_dropped (plain (λ _. usize)) yes, tt)))

pub lodge_spec : {M : Type 1} → statement M
unfolding tables_of
lodge_spec 𝓤 𝓛 𝓜 𝓡 wired =
    let c = F.clauses 𝓛 𝓜.mem 𝓡.returns in
    let W = walk_of 𝓛 F.ended stayed c in
    let 𝓣 = tables_of 𝓤 𝓛.H 𝓜 (tables 𝓤 𝓛.H 𝓜 𝓡 𝓡.env) in
    let called = callee.met 𝓤 𝓛 𝓜 𝓡 (code.calls-std_alloc::vec::lodge 𝓡.env wired) u8 byte_laws in
    proved_at 𝓛 F.ended stayed c 𝓜 𝓡 (
      Goes-blank 𝓛 0 (plain (λ _. Span.the_row)) yes (λ κs x f. tt),
      (
        Goes-blank 𝓛 0 (plain (λ _. RawPtr)) yes (λ κs x f. tt),
        (Goes-blank 𝓛 0 (plain (λ _. usize)) yes (λ κs x f. tt), tt),
      ),
    )
    #self code.function (code.unfolded 𝓤 𝓛.H 𝓜 𝓡 wired) (λ z are.
    let a = z.0.3 in let vss = z.0.4 in let s = a.0 in let p = a.1.0 in let n = a.1.1.0 in let xs = s.bytes in
    let fits = are.1.1.0.1 in
    let Asked = (p ≡ s.start) × (n ≡ length xs) × (0 < n) × (n < 2 ^ 63) in
    qed 𝓛 ((raw (alive 𝓛 F.signature z.0.0 z.0.1) ⊛ ‵ (owns (types_at F.signature.params z.0.0) a vss)) ∷ raw (fact 𝓤 Asked) ∷ []) ∵
    move ! (1 ∷ []) $ heard ! Asked (λ asked. split ! $ move ! (1 ∷ []) $
    fsplit ! $ fsplit ! $ none_had ! vss.0 (λ is. move ! (1 ∷ []) $ lets ! $
    -- [the bytes; the tokens]
    rewrite ! 0 (λ r. ‵ (run_owns r xs)) (sym asked.0) refl $ in_a_block ! p (λ r. run_owns r xs) (id⊢ 𝓤 (never 𝓤)) (λ b o at.
    let y = at_lodge 𝓛 𝓜.mem 𝓡.returns b o n xs in
    let L = Lodges 𝓛 𝓜.mem 𝓡.returns in
    regoal ! (λ (us : List Val). prop (WpFn 𝓤 𝓛.H 𝓣.C 𝓣.Λ code.function us (W.post z)))
    (λ i. is i ++ ((are.1.0 ∙ ap (λ r. ptr_val r ∷ []) at) i ++ (are.1.1.0.0 i ++ []))) refl $
    enter ! 𝓣.C 𝓣.Λ code.function (none ∷ vptr b o ∷ vint w64 n ∷ []) (W.post z) $
    alloc_all ! (λ l. pass_all ! refl ((tt, tt), ((tt, tt), ((tt, record { fits = fits }), tt))) $
    let En = env code.function.locals l in
    first ! $ blocks ! $ use1 𝓛 (raw (L.pre y)) (lodge_goes 𝓛 𝓜.mem 𝓡.returns b o n xs (sym asked.1) asked.2 asked.3) $
    calls_at_last ! (fm_of 𝓤 𝓛.H 𝓛.laws 𝓣) L called y
    (and_then ! (get ! refl) (and_then ! (get ! refl) (and_then ! (get ! refl) (no_more !)))) (λ v.
    use1 𝓛 (later (some (λ (r : Vec ℕ Lodged). given (IsLodged 𝓛 𝓜.mem 𝓡.returns b o n xs r) (‵ (Housed.own_val r (v ∷ []))))))
    (lodge_gives 𝓛 𝓜.mem 𝓡.returns b o n xs v) $
    await ! tt $ pick ! (λ r. learn ! (λ made. tells ! Housed housed-laws r (v ∷ []) (λ u same good.
    let fine : Good Housed v = subst (Good Housed) (sym (ap only same)) good in
    rewrite ! 0 (λ w. ‵ (Housed.own_val r (w ∷ []))) (sym (ap only same)) refl $ lands_last ! refl fine $
    exec ! 𝓣.C 𝓣.Λ En (seq (assign (place 0 []) (rv_opd (copy (place 4 [])))) return) (at_ret En (W.post z)) $
    sets ! (of_opd ! (get ! refl)) refl fine $
    returns ! (look_at ! 0 refl) $ free_all ! refl $
    suffices ! _ (ends_at 𝓛 F.ended stayed c z v r (tt, (tt, (tt, tt))) (tt, (tt, (tt, tt)))) $ says ! (made.0, made.1, made.3 ∙ sym at ∙ asked.0) $
    nothing ! $ nothing ! $ fjoin ! $ nothing ! $ fjoin ! $ nothing ! $ fjoin ! $ move ! (2 ∷ 0 ∷ 1 ∷ []) $ done !)))))))))
