use Rattle.bpf.proofs.Named.{fault_named}
use Rattle.bpf.proofs.WholeAgain.{apart, image_again, one_program}
use Rattle.bpf.proofs.laws.image_laws.Goals as goal

pub returns : goal.returns
returns c =
    let law = c.spelling_laws.ensures.read in
    record { read = image_again law; one_meaning = one_program law; apart = apart law; fault = fault_named c.spelling_laws.ensures.fault }
