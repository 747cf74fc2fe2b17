mod Laws
mod SampleProgram
mod Sample
