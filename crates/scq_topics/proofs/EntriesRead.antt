-- The entries of a text, read one after another.
use Rattle.std.proofs.Common.{◌≡◌, arith, ℕ, ◌+◌, ◌<◌, ◌≤◌, List, [], ◌∷◌, ◌++◌, length, drop, take, map, get_or, sym, ap, ◌∙◌, Option, Some, None}
use Rattle.std.specs.Option.{option_or}
use Rattle.std.proofs.lemmas.List.{at_drop_more, at_drop_all, take_more, take_all, map-append}
use Rattle.scq_topics.specs.declared.kind.Kind.{Kind}
use Rattle.scq_topics.specs.declared.topics.TopicFault.{TopicFault}
use Rattle.scq_topics.specs.Exports.{entry_fault, first_fault, declared_by}

-- the entry of this iteration
pub record IsThisEntry (entries : List (List ℕ)) (n : ℕ) (entry : List ℕ) : Type 0 where
  pub inside : n < length entries
  pub is : entry ≡ get_or entries n entry

pub first_fault-drop : (topics : List (List ℕ × Kind)) (entries : List (List ℕ)) (n : ℕ) (entry : List ℕ) → IsThisEntry entries n entry
    → first_fault topics (drop n entries)
    ≡ option_or (entry_fault topics entry) (first_fault (topics ++ declared_by entry ∷ []) (drop (n + 1) entries))
first_fault-drop topics entries n entry next =
    at_drop_more (first_fault topics) entries n entry next.inside
    ∙ ap (λ e. option_or (entry_fault topics e) (first_fault (topics ++ declared_by e ∷ []) (drop (n + 1) entries))) (sym next.is)

pub map-take : (entries : List (List ℕ)) (n : ℕ) (entry : List ℕ) → IsThisEntry entries n entry
    → map declared_by (take (n + 1) entries) ≡ map declared_by (take n entries) ++ declared_by entry ∷ []
map-take entries n entry next =
    ap (map declared_by) (take_more entries n entry next.inside)
    ∙ map-append declared_by (take n entries) (get_or entries n entry ∷ [])
    ∙ ap (λ e. map declared_by (take n entries) ++ declared_by e ∷ []) (sym next.is)

-- the state of the reading after so many entries: what they declared, and the first fault of the rest
pub record EntriesAreRead (entries : List (List ℕ)) (fault : Option TopicFault) (n : ℕ) (topics : List (List ℕ × Kind)) : Type 0 where
  pub later : first_fault topics (drop n entries) ≡ fault
  pub earlier : topics ≡ map declared_by (take n entries)

-- an entry without a fault is declared
pub IsRead-more : (entries : List (List ℕ)) (fault : Option TopicFault) (n m : ℕ) (topics more : List (List ℕ × Kind)) (entry : List ℕ)
    → IsThisEntry entries n entry → EntriesAreRead entries fault n topics → entry_fault topics entry ≡ None → more ≡ topics ++ declared_by entry ∷ [] → m ≡ n + 1
    → EntriesAreRead entries fault m more
IsRead-more entries fault n m topics more entry next read sound added one =
    let rest = first_fault-drop topics entries n entry next in
    record {
      later =
          ap (λ k. first_fault more (drop k entries)) one
          ∙ ap (λ ts. first_fault ts (drop (n + 1) entries)) added
          ∙ sym (ap (λ o. option_or o (first_fault (topics ++ declared_by entry ∷ []) (drop (n + 1) entries))) sound)
          ∙ sym rest
          ∙ read.later;
      earlier =
          added
          ∙ ap (λ ts. ts ++ declared_by entry ∷ []) read.earlier
          ∙ sym (map-take entries n entry next)
          ∙ ap (λ k. map declared_by (take k entries)) (sym one);
    }

-- an entry's fault, after entries without one, is the first fault
pub first_fault-met : (entries : List (List ℕ)) (fault : Option TopicFault) (n : ℕ) (topics : List (List ℕ × Kind)) (entry : List ℕ) (met : TopicFault)
    → IsThisEntry entries n entry → EntriesAreRead entries fault n topics → entry_fault topics entry ≡ Some met → Some met ≡ fault
first_fault-met entries fault n topics entry met next read e =
    sym (ap (λ o. option_or o (first_fault (topics ++ declared_by entry ∷ []) (drop (n + 1) entries))) e)
    ∙ sym (first_fault-drop topics entries n entry next)
    ∙ read.later

-- once all entries are read, there is no fault, and the topics are those that they declare
pub IsRead-all : (entries : List (List ℕ)) (fault : Option TopicFault) (n : ℕ) (topics : List (List ℕ × Kind)) → n ≡ length entries
    → EntriesAreRead entries fault n topics → (None ≡ fault) × (topics ≡ map declared_by entries)
IsRead-all entries fault n topics all read =
    let past : length entries ≤ n = omega arith in (
      sym (at_drop_all (first_fault topics) entries n past) ∙ read.later,
      read.earlier ∙ ap (map declared_by) (take_all n entries past),
    )
