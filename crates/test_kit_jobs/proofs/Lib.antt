mod ChartsLeft
mod Left
mod DecidesLeft
mod NodesLeft
mod PacketsLeft
mod RehearsesLeft
mod SuitesLeft
