pub mod AnswersHost
