-- What a text of topics declares. Declared topics are the list of their names and kinds, in order.
use Rattle.std.specs.Prelude.{ℕ, ◌+◌, ◌≤◌, Bool, not, ◌==◌, ◌&&◌, ◌||◌, nat_lt, nat_le, List, []}
use Rattle.std.specs.Prelude.{◌∷◌, ◌++◌, length, map, codes, slice_index_or, Option, Some, None}
use Rattle.std.specs.Prelude.{unwrap_or, is_some, if◌then◌else◌}
use Rattle.std.specs.Char.{is_ascii_alphanumeric}
use Rattle.std.specs.List.{All, list_all, list_any, position_or_len, before_first, after_first}
use Rattle.std.specs.List.{slice_split}
use Rattle.std.specs.Option.{option_or}
use Rattle.std.specs.Str.{bytes_eq}
use Rattle.scq_topics.specs.Kind.{kind_named}
use Rattle.scq_topics.specs.declared.kind.Kind.{Kind}
use Rattle.scq_topics.specs.declared.kind.Kind.TheVariants.{Len}
use Rattle.scq_topics.specs.declared.topics.TopicFault.{TopicFault}
use Rattle.scq_topics.specs.declared.topics.TopicFault.TheVariants.{TooMany, BadName, BadKind}
use Rattle.scq_topics.specs.declared.topics.TopicFault.TheVariants.{Twice}

-- the name is this one
abbrev pub has_name : List ℕ → List ℕ × Kind → Bool
has_name name topic = bytes_eq topic.0 name

-- the number of the topic with this name, or how many topics there are where none has it
abbrev pub topic_of : List (List ℕ × Kind) → List ℕ → ℕ
topic_of topics name = position_or_len (has_name name) topics

-- the name of the topic with this number, and `-` past the last
abbrev pub name_of : List (List ℕ × Kind) → ℕ → List ℕ
name_of topics number = slice_index_or (map (λ topic. topic.0) topics) number (codes "-")

-- the kind of the topic with this number, and Len past the last
abbrev pub kind_of : List (List ℕ × Kind) → ℕ → Kind
kind_of topics number = slice_index_or (map (λ topic. topic.1) topics) number Len

-- a byte of a name: an ASCII letter or digit, `_` or `.`
abbrev pub is_name_byte : ℕ → Bool
is_name_byte byte = is_ascii_alphanumeric byte || byte == 95 || byte == 46

-- a name: 1 to 32 such bytes
abbrev pub is_name : List ℕ → Bool
is_name name = nat_lt 0 (length name) && nat_le (length name) 32 && list_all is_name_byte name

-- no name has more bytes than a name may have
abbrev pub HaveShortNames : List (List ℕ × Kind) → Type 0
HaveShortNames topics = All (λ topic. length topic.0 ≤ 32) topics

-- the entries of a text: what stands between its commas
abbrev pub entries_of : List ℕ → List (List ℕ)
entries_of text = slice_split (λ byte. byte == 44) text

-- an entry's name: what stands before its first `=`, or all of it where it has none
abbrev pub entry_name : List ℕ → List ℕ
entry_name entry = before_first (λ byte. byte == 61) entry

-- an entry's kind: the one that is named after its first `=`, if it has one
abbrev pub entry_kind : List ℕ → Option Kind
entry_kind entry = if list_any (λ byte. byte == 61) entry
    then kind_named (after_first (λ byte. byte == 61) entry) else None

-- the topic that an entry declares
abbrev pub declared_by : List ℕ → List ℕ × Kind
declared_by entry = (entry_name entry, unwrap_or (entry_kind entry) Len)

-- what is wrong with the entry that follows these topics, tested in this order
abbrev pub entry_fault : List (List ℕ × Kind) → List ℕ → Option TopicFault
entry_fault topics entry =
    if nat_lt 16 (length topics + 1) then Some (TooMany (length topics + 1))
    else if not (is_name (entry_name entry)) then Some (BadName (length topics + 1))
    else if not (is_some (entry_kind entry)) then Some (BadKind (length topics + 1))
    else if list_any (has_name (entry_name entry)) topics then Some (Twice (length topics + 1))
    else None

-- the fault of the first entry, from the left, that has one
abbrev pub first_fault : List (List ℕ × Kind) → List (List ℕ) → Option TopicFault
first_fault topics [] = None
first_fault topics (entry ∷ entries) =
    option_or (entry_fault topics entry) (first_fault (topics ++ declared_by entry ∷ []) entries)
