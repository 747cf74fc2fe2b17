-- What the tactic of `trace_file` names.
pub use Rattle.job_nodes.proofs.Scheduled.{refuses_contents}
