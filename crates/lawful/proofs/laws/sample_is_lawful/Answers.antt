use Rattle.lawful.proofs.Sample as sample
use Rattle.lawful.proofs.laws.sample_is_lawful.Goals as goal

pub returns : goal.returns
returns c = sample.sample_is_lawful c.image_laws.ensures.read
