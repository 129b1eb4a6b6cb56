-- The numbers that C gets as answers, by the names that scq.h gives them.
use Rattle.std.specs.Prelude.{ℕ}

abbrev pub scq_ok : ℕ
scq_ok = 0

abbrev pub scq_empty : ℕ
scq_empty = 1

abbrev pub scq_full : ℕ
scq_full = 2

abbrev pub scq_spent : ℕ
scq_spent = 3

abbrev pub scq_closed : ℕ
scq_closed = 4

abbrev pub scq_not_held : ℕ
scq_not_held = 5

abbrev pub scq_no_topic : ℕ
scq_no_topic = 6

abbrev pub scq_no_room : ℕ
scq_no_room = 7

abbrev pub scq_no_memory : ℕ
scq_no_memory = 8

abbrev pub scq_bad_order : ℕ
scq_bad_order = 9

abbrev pub scq_bad_topics : ℕ
scq_bad_topics = 10

abbrev pub scq_bad_ports : ℕ
scq_bad_ports = 11

abbrev pub scq_bad_limit : ℕ
scq_bad_limit = 12

abbrev pub scq_bad_size : ℕ
scq_bad_size = 13

abbrev pub scq_bad_hold : ℕ
scq_bad_hold = 14

abbrev pub scq_is_open : ℕ
scq_is_open = 15

abbrev pub scq_retired : ℕ
scq_retired = 16
