use Rattle.test_laws.proofs.Sample as sample
use Rattle.test_laws.proofs.samples.a_sample_is_lawful.Goals as goal

pub returns : goal.returns
returns c = sample.lawful_sample c.sample_is_lawful.ensures
