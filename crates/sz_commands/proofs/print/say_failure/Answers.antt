use Rattle.sz_commands.proofs.print.say_failure.Goals as goal

pub returns-in-Exhausted-clause-printed : goal.returns-in-Exhausted-clause-printed
returns-in-Exhausted-clause-printed g c =
    let printed = rw (c.words-words.ensures, c.ending-ending.ensures, c.in-Exhausted.is) at c.say_numbers-in-Exhausted.ensures.printed in
    rw c.in-Exhausted.is printed
