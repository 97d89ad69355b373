mod KnownLemmas
mod MemoryLemmas
mod PatchLemmas
mod PrintLemmas
mod ReportLemmas
mod ScriptLemmas
mod WholeLemmas
