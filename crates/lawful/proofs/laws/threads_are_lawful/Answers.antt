use Rattle.lawful.proofs.Together as together
use Rattle.lawful.proofs.laws.threads_are_lawful.Goals as goal

pub returns : goal.returns
returns c = together.threads_are_lawful (record {
  front = c.runs_from_the_front.ensures.front;
  images = c.image_laws.ensures.read;
  next = c.published_programs.ensures.next;
  counts = c.workers_shares_count.ensures;
  agrees = c.published_agrees.ensures;
})
