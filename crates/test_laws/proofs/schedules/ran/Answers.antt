use Rattle.test_laws.proofs.schedules.ran.Goals as goal

pub returns : goal.returns
returns c = record {
  world_is = c.in_ok-ran.ensures.world;
  quotas = λ map key limit takes few matches. c.quotas_hold.ensures.holds _ _ map key limit takes c.in_ok-ran.ensures.lawful few matches;
}
