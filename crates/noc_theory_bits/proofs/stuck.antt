pub mod HolderStayLemmas
pub mod QuietLemmas
pub mod StillCountLemmas
pub mod StillShownLemmas
pub mod StillVerdictLemmas
pub mod WaitLemmas
