-- What clap makes of a command line, as the clauses of the jobs name it: a subcommand, its fields, and the rows of its matches.
pub use Rattle.clap.specs.Matches.{found_of}
pub use Rattle.clap.specs.Simple.{app_of}
pub use Rattle.clap.specs.Walk.{first_of, rows_of}
pub use Rattle.clap.specs.declared.builder.command.Command.TheViews.{out-Command as fields_of}
