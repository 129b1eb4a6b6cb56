-- How sources come, one by one.
use Rattle.std.proofs.Common.{◌≡◌, ◌⊎◌, ◌∙◌, refl, sym, ap, subst, arith, ℕ, ◌+◌, ◌-◌, ◌<◌, List, [], ◌∷◌, ◌++◌, length, map, take, get_or, length-append, Option, Some, None, IsSome, IfSome}
use Rattle.std.specs.Prelude.{IsSomeAnd, IsTrue, option_and_then, slice_get}
use Rattle.std.specs.List.{list_any}
use Rattle.std.specs.Option.{option_map}
use Rattle.std.specs.Str.{bytes_eq}
use Rattle.std.proofs.lemmas.List.{get_or-map, length-map, take_more}
use Rattle.std.proofs.lemmas.List.Elements.{All-push}
use Rattle.std.proofs.lemmas.Option.{slice_get-get_or}
use Rattle.scq_outside.specs.Exports.{Rose, without_name}
use Rattle.scq_outside.specs.Table.{Table}
use Rattle.scq_files.specs.Exports.{all_left}
use Rattle.scq_service.specs.Exports.{FilesOf, SourceOf, HaveCome, IfVisible, IsMissing, without_names, Change, HasMissed, inputs_of}
use Rattle.scq_service.proofs.Files.{gone, no-contents, parts, visible-more, without-more}

-- the table without the names so far and without the next one
table-more : (old now new : Option Table) (names : List (List ℕ)) (name : List ℕ) → now ≡ option_map (without_names names) old
    → new ≡ option_map (without_name name) now
    → new ≡ option_map (without_names (names ++ name ∷ [])) old
table-more old now new names name before after = after ∙ ap (option_map (without_name name)) before ∙ at old where
  at : (o : Option Table) → option_map (without_name name) (option_map (without_names names) o) ≡ option_map (without_names (names ++ name ∷ [])) o
  at None = refl
  at (Some table) = ap Some (sym (without-more names name table))

-- a name that is not in the table now
missing : (old now : Option Table) (names : List (List ℕ)) (i : ℕ) (name : List ℕ) → i < length names → name ≡ get_or names i []
    → now ≡ option_map (without_names (take i names)) old → IfSome now (λ files. files name ≡ None) → IfSome old (λ files. IsMissing files names (i + 1))
missing None now names i name within is left none = tt
missing (Some table) now names i name within is left none =
    let N : Option Table → Type 0 = λ o. IfSome o (λ files. files name ≡ None) in
    let here : without_names (take i names) table name ≡ None = subst N left none in
    let before : i + 1 - 1 ≡ i = omega arith in
    let there : slice_get names (i + 1 - 1) ≡ Some name = ap (slice_get names) before ∙ slice_get-get_or names i [] within ∙ ap Some (sym is) in
    let M : Option (List ℕ) → Type 0 = λ o. IsSomeAnd o (λ name. (table name ≡ None) ⊎ IsTrue (list_any (bytes_eq name) (take (i + 1 - 1) names))) in
    let T : ℕ → Type 0 = λ k. (table name ≡ None) ⊎ IsTrue (list_any (bytes_eq name) (take k names)) in
    subst M (sym there) (subst T (sym before) (gone (take i names) table name here))

rose-since : (old now new : ℕ) → now ≡ old → Rose now new → Rose old new
rose-since old now new same rose = let R : ℕ → Type 0 = λ n. Rose n new in subst R same rose

-- this is the name of the next source
pub record IsNextName {S : Type 0} (names : List (List ℕ)) (sources : List S) (name : List ℕ) : Type 0 where
  pub more : length sources < length names
  pub is : name ≡ get_or names (length sources) []

pub next-name : {A S : Type 0} (bytes : A → List ℕ) (own : List A) (sources : List S) (i : ℕ) (item : A) (name : List ℕ) → length sources ≡ i → i < length own
    → name ≡ bytes item → item ≡ get_or own i item → IsNextName (map bytes own) sources name
next-name bytes own sources i item name count less named at = record {
  more = omega (arith, count, less, length-map own bytes);
  is = named ∙ ap bytes at ∙ sym (get_or-map bytes own i item [] less) ∙ ap (λ n. get_or (map bytes own) n []) (sym count);
}

-- the source of this name was got, and files are then these
pub record SourceIsGot {F S : Type 0} (fs : FilesOf F S) (src : SourceOf S) (name : List ℕ) (now after : F) (source : S) : Type 0 where
  pub given : fs.table after ≡ option_map (without_name name) (fs.table now)
  pub fresh : src.faults source ≡ 0
  pub content : IfSome (fs.table now) (λ files. IsSome (files name) × (src.left source ≡ files name))
  pub kept : fs.faults after ≡ fs.faults now

-- it was not got
pub record IsMissed {F S : Type 0} (fs : FilesOf F S) (name : List ℕ) (now after : F) : Type 0 where
  pub unchanged : fs.table after ≡ fs.table now
  pub missing : IfSome (fs.table now) (λ files. files name ≡ None)
  pub rose : Rose (fs.faults now) (fs.faults after)

module _ {S : Type 0} (src : SourceOf S) where
  -- what sources have left, with one source more
  left-more : (sources : List S) (source : S) (contents : List (List ℕ)) (content : List ℕ) → src.left source ≡ Some content → all_left src.left sources ≡ Some contents
      → all_left src.left (sources ++ source ∷ []) ≡ Some (contents ++ content ∷ [])
  left-more [] source contents content this all =
      ap (option_and_then (λ c. option_map (λ more. c ∷ more) (Some []))) this
      ∙ ap (λ (before : List (List ℕ)). Some (before ++ content ∷ [])) (no-contents all)
  left-more (s ∷ ss) source contents content this all =
      let p = parts (src.left s) (all_left src.left ss) contents all in
      ap (option_and_then (λ c. option_map (λ more. c ∷ more) (all_left src.left (ss ++ source ∷ [])))) p.2
      ∙ ap (option_map (λ more. p.0 ∷ more)) (left-more ss source p.1 content this p.3)
      ∙ ap (λ (before : List (List ℕ)). Some (before ++ content ∷ [])) (sym p.4)

  -- with the next source, which was got, one source more has come
  pub come-more : (names : List (List ℕ)) (table : Change (Option Table)) (misses misses' : Change ℕ) (sources : List S) (source : S) (name : List ℕ)
      (new : Option Table)
      → HaveCome src names (record { table = table; misses = misses; sources = sources; read = 0 })
      → length sources < length names → name ≡ get_or names (length sources) [] → new ≡ option_map (without_name name) table.new → src.faults source ≡ 0
      → IfSome table.new (λ files. IsSome (files name) × (src.left source ≡ files name))
      → HaveCome src names (record { table = record { old = table.old; new = new }; misses = misses'; sources = sources ++ source ∷ []; read = 0 })
  come-more names table misses misses' sources source name new come more is_name given quiet there =
      let longer : length (sources ++ source ∷ []) ≡ length sources + 1 = length-append sources (source ∷ []) in
      let front : take (length (sources ++ source ∷ [])) names ≡ take (length sources) names ++ name ∷ [] =
      ap (λ n. take n names) longer ∙ take_more names (length sources) [] more ∙ ap (λ (x : List ℕ). take (length sources) names ++ x ∷ []) (sym is_name) in
      let V : List (List ℕ) → Type 0 = λ ns. IfVisible table.old ns (λ contents. all_left src.left (sources ++ source ∷ []) ≡ Some contents) in
      record {
        within = omega (arith, longer, more);
        table = table-more table.old table.new new (take (length sources) names) name come.table given
            ∙ ap (λ (ns : List (List ℕ)). option_map (without_names ns) table.old) (sym front);
        fresh = All-push (λ s. src.faults s ≡ 0) sources source come.fresh quiet;
        unread = subst V (sym front) (visible-more table.old table.new (take (length sources) names) name (src.left source) _ _ come.table there come.unread
            (λ contents content this all. left-more sources source contents content this all));
      }

  -- the next source was not got, so that its name is missing
  pub missed : (names : List (List ℕ)) (table : Change (Option Table)) (misses : Change ℕ) (sources : List S) (name : List ℕ) (new : Option Table) (count : ℕ)
      → HaveCome src names (record { table = table; misses = misses; sources = sources; read = 0 }) → misses.new ≡ misses.old
      → length sources < length names → name ≡ get_or names (length sources) [] → IfSome table.new (λ files. files name ≡ None) → Rose misses.new count
      → HasMissed names (record { table = record { old = table.old; new = new }; misses = record { old = misses.old; new = count }; sources = sources; read = 0 })
  missed names table misses sources name new count come kept more is none rose = record {
    rose = rose-since misses.old misses.new count kept rose;
    missing = missing table.old table.new names (length sources) name more is come.table none;
  }

module _ {F S : Type 0} {fs : FilesOf F S} {src : SourceOf S} {names : List (List ℕ)} (was : F) {now after : F} {sources : List S} {name : List ℕ} where
  -- so it is of files as they are before a call and after it
  pub come-got : {source : S} → IsNextName names sources name → SourceIsGot fs src name now after source → HaveCome src names (inputs_of fs was now sources 0)
      → HaveCome src names (inputs_of fs was after (sources ++ source ∷ []) 0)
  come-got {source} next got come =
      come-more src names (record { old = fs.table was; new = fs.table now }) (record { old = fs.faults was; new = fs.faults now })
      (record { old = fs.faults was; new = fs.faults after }) sources source name (fs.table after) come next.more next.is got.given got.fresh got.content

  pub come-missed : IsMissed fs name now after → HaveCome src names (inputs_of fs was now sources 0) → HaveCome src names (inputs_of fs was after sources 0)
  come-missed miss come = record { within = come.within; table = miss.unchanged ∙ come.table; fresh = come.fresh; unread = come.unread }

  pub has-missed : IsNextName names sources name → IsMissed fs name now after → HaveCome src names (inputs_of fs was now sources 0) → fs.faults now ≡ fs.faults was
      → HasMissed names (inputs_of fs was after sources 0)
  has-missed next miss come kept =
      missed src names (record { old = fs.table was; new = fs.table now }) (record { old = fs.faults was; new = fs.faults now }) sources name (fs.table after)
      (fs.faults after) come kept next.more next.is miss.missing miss.rose
