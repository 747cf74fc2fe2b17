mod BankLimits
mod Beginnings
mod Meeting
mod RangeLists
mod SuiteEnds
mod TableWords
mod TrialLines
mod TrialLists
