use Rattle.std.proofs.Common.{◌-◌, ◌≤◌, length}
use Rattle.sz_dns.specs.Answer.{AreQuestions}
use Rattle.sz_dns.proofs.answer.skip_questions.Given as goal

abbrev pub invariant-questions : goal.invariant-questions
invariant-questions l = record {
  counted : l.read ≤ l.count;
  questions : AreQuestions l.message l.read l.body l.left;
  within : length l.left ≤ length l.message;
}

abbrev pub decreases-questions : goal.decreases-questions
decreases-questions l = l.count - l.read
