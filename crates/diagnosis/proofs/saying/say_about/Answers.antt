use Rattle.diagnosis.proofs.saying.say_about.Goals as goal

pub returns : goal.returns
returns g c = c.writeln.ensures.bytes
