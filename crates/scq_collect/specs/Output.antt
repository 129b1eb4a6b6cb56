-- What one thread writes about the messages of some files, taken in order. `topics` has the names
-- and kinds of the declared topics; the number after the last of them stands for all undeclared
-- ones.
use Rattle.std.specs.Prelude.{ℕ, ◌+◌, ◌==◌, List, [], ◌∷◌, ◌++◌, length, map, codes, decimal}
use Rattle.std.specs.Prelude.{flat_map, count_by, sum_by, if◌then◌else◌}
use Rattle.std.specs.List.{range_with_len}
use Rattle.scq_topics.specs.declared.kind.Kind.{Kind}
use Rattle.scq_topics.specs.Exports.{reply_of, topic_of, name_of, kind_of}
use Rattle.scq_frames.specs.Exports.{Framed, messages_of}
use Rattle.scq_collect.specs.declared.whole.AnswerView.{AnswerView}
use Rattle.scq_collect.specs.declared.whole.Whole.{Whole}

-- the answer to a message: its file and line, its topic's number, how many bytes its payload has,
-- and the reply
pub record Answer : Type 0 where
  pub file : ℕ
  pub line : ℕ
  pub topic : ℕ
  pub bytes : ℕ
  pub reply : List ℕ

-- the answer that is kept whole, or whose reply stays where it is
abbrev pub answer_of_whole : Whole → Answer
answer_of_whole w =
    record { file = w.file; line = w.line; topic = w.topic; bytes = w.bytes; reply = w.reply }

abbrev pub answer_of_view : AnswerView → Answer
answer_of_view v =
    record { file = v.file; line = v.line; topic = v.topic; bytes = v.bytes; reply = v.reply.now }

-- the answer to a message of this file
abbrev pub answer_to : List (List ℕ × Kind) → ℕ → Framed → Answer
answer_to topics file m = record {
  file = file;
  line = m.line;
  topic = topic_of topics m.topic;
  bytes = length m.payload;
  reply = reply_of (kind_of topics (topic_of topics m.topic)) m.payload;
}

-- the answers to all messages of files with these contents, of which the first has this number
abbrev pub answers_to : List (List ℕ × Kind) → ℕ → List (List ℕ) → List Answer
answers_to topics file [] = []
answers_to topics file (content ∷ more) =
    map (answer_to topics file) (messages_of content) ++ answers_to topics (file + 1) more

-- the line for an answer: `file:line topic reply`
abbrev pub reply_line : List (List ℕ × Kind) → Answer → List ℕ
reply_line topics a =
    decimal a.file ++ codes ":" ++ decimal a.line ++ codes " " ++ name_of topics a.topic
    ++ codes " " ++ a.reply ++ codes "\n"

-- how many answers are on the topic with this number
abbrev pub count_on : ℕ → List Answer → ℕ
count_on topic answers = count_by (λ a. a.topic == topic) answers

-- how many payload bytes their messages have
abbrev pub bytes_on : ℕ → List Answer → ℕ
bytes_on topic answers = sum_by (λ a. if a.topic == topic then a.bytes else 0) answers

-- the line for the topic with this number: `total topic count bytes`
abbrev pub total_line : List (List ℕ × Kind) → List Answer → ℕ → List ℕ
total_line topics answers topic =
    codes "total " ++ name_of topics topic ++ codes " " ++ decimal (count_on topic answers)
    ++ codes " "
    ++ decimal (bytes_on topic answers) ++ codes "\n"

-- the totals: the declared topics in their order, and last those that aren't declared
abbrev pub total_lines : List (List ℕ × Kind) → List Answer → List ℕ
total_lines topics answers =
    flat_map (total_line topics answers) (range_with_len 0 (length topics + 1))

-- what is written of answers
abbrev pub text_of_answers : List (List ℕ × Kind) → List Answer → List ℕ
text_of_answers topics answers = flat_map (reply_line topics) answers ++ total_lines topics answers

-- what one thread writes about files with these contents
abbrev pub one_thread_output : List (List ℕ × Kind) → List (List ℕ) → List ℕ
one_thread_output topics contents = text_of_answers topics (answers_to topics 1 contents)
