pub mod SystemQuestions
pub mod FileCalls
pub mod BlockParts
pub mod PerformsSystemCall
pub mod SystemCalls
pub mod Growth
