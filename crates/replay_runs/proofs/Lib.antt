mod CountedLines
mod FaultLemmas
mod WritingLemmas
