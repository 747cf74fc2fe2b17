-- Which refusals there are, and when: the definitions of `bver_pass`.
pub use Rattle.bver_pass.specs.Refusals.{
  IsRefusal,
  IsValueRefusal,
  of_form,
  of_memory,
  of_values,
}
