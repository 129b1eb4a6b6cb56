-- What was given, as the answer with its way.
use Rattle.scq_collect.specs.declared.answered.Answered.{Answered}
use Rattle.scq_collect.specs.declared.log.Given.{Given}

abbrev pub given_answer : Given → Answered
given_answer g = record {
  file = g.answer.file;
  line = g.answer.line;
  topic = g.answer.topic;
  part = g.answer.part;
  parts = g.answer.parts;
  bytes = g.answer.bytes;
  text = g.answer.text.now;
  way = g.way;
}
