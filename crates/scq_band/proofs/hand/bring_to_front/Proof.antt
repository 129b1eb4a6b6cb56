-- `bring_to_front` turns the row in which the seat lists its slots, as `Seat::turn` does, until that of the index stands first.
use Rattle.atomic_table.proofs.Names.{◌≡◌, ℕ, ◌<◌, List, [], ◌∷◌, ◌++◌, refl, sym, subst, a_type, named, Val, vunit, vptr, vint, inst_fn, SProp, emp, ent, Fml, ftrue, fsep, flft, sem, ‵, raw, ◌⊛◌, ◌$◌, ◌∵◌, !, qed, by, move, keep, split, join, fsplit, fsplit3, fjoin, fjoin3, heard, use0, use1, feq_i, unit_lit, of_opd, returns, enter, alloc_all, pass_all, free_all, look_at, sets, tables, yes, RattleType, owns, types_at, plain, nothing, param, layouts, Stays, stay_dropped, walk_of, Goes-dropped, fact, fact_i, Coded, mut_vals, mut_Tells, uint_vals, uint_Tells, opens, closes, stay_ref, Goes-ref}
use mir.Syntax.{w32}
use denote.Builtin.{u32}
use Rattle.atomic_table.proofs.Walks.{proved, leaves}
use Rattle.atomic_table.specs.Table.{Me}
use Rattle.atomic_table.specs.Seated.{TableId, mine}
use Rattle.atomic_table.specs.contracts.shared.Seat as seat
use Rattle.scq_law.specs.Exports.{times}
use Rattle.scq_band.specs.Exports.{indices_of, StandsFirst}
use Rattle.scq_band.proofs.Slots.{Sought, sought}
use Rattle.scq_band.proofs.Rows.{turns_all}
use Rattle.scq_band.specs.contracts.hand.bring_to_front.{ended, clauses}
use Rattle.scq_band.specs.contracts.hand.bring_to_front.Key.{name as #self}
use Rattle.scq_band.proofs.hand.bring_to_front.Statement.{statement}
use Rattle.scq_band.proofs.hand.bring_to_front.Code as code

pub bring_to_front_spec : {M : Type 1} → statement M
bring_to_front_spec 𝓤 𝓛 𝓜 𝓡 wired T U _ _ =
    let H = 𝓛.H in let 𝓣 = tables 𝓤 H 𝓜 𝓡 𝓡.env in let R : RattleType = param 0 T in let W : RattleType = param 1 U in let En = ended T U in
    let inst = layouts (a_type ∷ a_type ∷ []) (T, (U, tt)) in let fn = inst_fn inst code.function in let Sr : RattleType = seat.the_row R W in let sitter = plain (λ _. Sr) in
    let hs : Stays En.signature.params En.kept = (stay_ref (0 ∷ []) tt sitter, (stay_dropped (plain (λ _. u32)) yes, tt)) in let c = clauses T U 𝓛 𝓜.mem 𝓡.returns in
    proved 𝓛 En hs c 𝓜 𝓡 (Goes-ref 𝓛 3 0 tt sitter, (Goes-dropped 𝓛 3 (plain (λ _. u32)) yes (λ κs x f. refl), tt)) (#self inst) fn (code.unfolded 𝓤 H 𝓜 𝓡 wired (T, (U, tt)))
    (λ κs. (mut_vals, (uint_vals w32, tt))) (λ κs. (mut_Tells (named 0) κs.0 Sr, (uint_Tells w32, tt))) (λ κs qs bounds a gh are.
    let b : ℕ = a.0.ref_ptr.0 in let o : ℕ = a.0.ref_ptr.1 in let h : Sr.Denot = a.0.now in let z : TableId = h.table_id in let id : ℕ = h.id in let v : Me T.Denot U.Denot = h.me in let cv : Coded U.Denot = W.coded in
    let i : ℕ = a.1.0 in let Asked : Type 0 = 0 < times i (indices_of v.1) in
    let y : (walk_of 𝓛 En hs c).Ghost = ((κs, qs, bounds, a, (vptr b o ∷ [], (vint w32 i ∷ [], tt))), gh) in let Post : Val → SProp 𝓤 = (walk_of 𝓛 En hs c).post y in
    let others : Fml = fsep (flft κs.1.0 qs.1.0) (fsep (flft κs.1.1.0 qs.1.1.0) ftrue) in
    qed 𝓛 (((‵ (flft κs.0 qs.0) ⊛ ‵ others) ⊛ ‵ (owns (types_at En.signature.params κs) a y.0.4)) ∷ raw (fact 𝓤 _) ∷ raw (fact 𝓤 _) ∷ raw (fact 𝓤 Asked) ∷ []) ∵
    keep ! (3 ∷ 0 ∷ []) $ heard ! Asked (λ asked.
    let s : Sought i v.1 = sought i v.1 asked in let behind : List (ℕ × T.Denot) = (i, s.slot) ∷ s.behind in let turned : List (ℕ × T.Denot) = behind ++ s.front in
    let v' : Me T.Denot U.Denot = (v.0, turned) in let h' : Sr.Denot = record { marker = h.marker; table_id = z; id = id; me = v' } in
    let Told : Type 0 = (z ≡ z) × (id ≡ id) × StandsFirst i v v' in
    let told : Told = (refl, refl, record { view = refl; slots = record { front = s.front; behind = behind; was = s.was; turned = refl }; first = refl }) in
    let moved : ent 𝓤 (sem 𝓛 (mine R cv.code z id v)) (sem 𝓛 (mine R cv.code z id v')) =
    subst (λ (l : List (ℕ × T.Denot)). ent 𝓤 (sem 𝓛 (mine R cv.code z id (v.0, l))) (sem 𝓛 (mine R cv.code z id v'))) (sym s.was) (turns_all 𝓛 R cv z id v.0 s.front behind) in
    -- [the tokens; the seat and the index]
    split ! $ split ! $ move ! (2 ∷ []) $ fsplit ! $ fsplit3 ! $ keep ! (1 ∷ 2 ∷ 4 ∷ 5 ∷ []) $
    enter ! 𝓣.C 𝓣.Λ fn (vptr b o ∷ vint w32 i ∷ []) Post $ alloc_all ! (λ l. pass_all ! refl ((tt, tt), ((tt, record { fits = are.1.0.1 }), tt)) $
    opens ! tt Sr b o (λ ts. move ! (1 ∷ []) $ fsplit ! $ move ! (1 ∷ []) $ use1 𝓛 (‵ (mine R cv.code z id v')) moved $ move ! (1 ∷ 0 ∷ []) $ fjoin ! $ move ! (1 ∷ 0 ∷ []) $
    closes ! tt Sr h' ts b o $ feq_i ! (List Val) (vptr b o ∷ []) (vptr b o ∷ []) refl $ fjoin3 ! $ nothing ! $ nothing ! $ fjoin ! $ move ! (1 ∷ 0 ∷ []) $ fjoin ! $ move ! (1 ∷ 2 ∷ []) $ join ! $
    sets ! (of_opd ! (unit_lit !)) refl (tt, tt) $ use0 𝓛 (raw (fact 𝓤 Told)) (fact_i 𝓤 Told (emp 𝓤) told) $ feq_i ! (List Val) (vunit ∷ []) (vunit ∷ []) refl $
    returns ! (look_at ! 0 refl) $ free_all ! refl $ keep ! (2 ∷ 3 ∷ 0 ∷ 1 ∷ []) $ by ! (leaves 𝓛 En hs c y vunit tt (h', (tt, tt)) (tt, (tt, tt)))))))
