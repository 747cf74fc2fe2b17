use Rattle.stepper.proofs.endings.run.Goals as goal

pub returns : goal.returns
returns c =
    let started = c.start-machine.ensures in
    rw (started.run.program, started.run.header, started.run.sizes) at (c.walk.ensures c.args.port started.state)
