-- ---- numbers and service in turn, with nothing of the system
pub mod Numbers
pub mod Service
pub mod Places
-- ---- intervals, of any system whose steps have these facts
pub mod Facts
pub mod Sweeps
pub mod Adopting
pub mod Along
pub mod Paths
-- ---- how boots spread, of any system whose steps have these facts
pub mod SpreadFacts
pub mod SpreadSweeps
pub mod SpreadPaths
-- ---- one hop, from facts of single steps
pub mod Hops
pub mod HopLemmas
pub mod Heard
-- ---- a node: what its steps leave of a flow, of a link and of what a neighbour reported
pub mod Ticked
pub mod EitherKind
pub mod Versions
pub mod Becomes
pub mod LastBoots
pub mod States
pub mod Rises
pub mod StepGoes
pub mod Changes
pub mod Standing
pub mod KeptVersions
pub mod Keys
pub mod Rows
pub mod Polls
pub mod Lasts
pub mod Room
pub mod Views
pub mod Greets
pub mod OverEdges
pub mod Slots
pub mod Heeded
pub mod SlotHeeds
pub mod Deaf
-- ---- a node: what it holds of starts, and what its steps make of it
pub mod LifeRows
pub mod LifePieces
pub mod LifeFrames
-- ---- the world: links, frames, and what comes through
pub mod Counting
pub mod Made
pub mod Links
pub mod LinkRuns
pub mod LinkKeys
pub mod Heads
pub mod Known
pub mod KnownRuns
pub mod Wires
pub mod Origins
pub mod Framed
pub mod Arrives
pub mod Passes
pub mod Edges
pub mod Makes
pub mod MadeBy
pub mod MakesNow
pub mod Begins
pub mod Meetings
pub mod Hears
pub mod SlotParts
pub mod Heeds
pub mod Takes
-- ---- the masks of messages on paths
pub mod OneMask
pub mod SignedMasks
pub mod PassMasks
-- ---- lives: what holds in every state, and the steps of a calm interval
pub mod Always
pub mod Calms
pub mod Heeding
pub mod Passing
pub mod Whole
pub mod Watching
-- ---- nodes that stay up in an interval, and what their frames tell of starts
pub mod UpStates
pub mod UpFacts
pub mod UpFrames
pub mod Awaited
pub mod UpTold
-- ---- what they keep of the versions of their neighbours, and what their frames bring of their own
pub mod KeptSteps
pub mod VersionRuns
pub mod VersionFrames
pub mod VersionTold
-- ---- the laws
pub mod Positions
pub mod RunStates
pub mod CalmEras
pub mod CalmRuns
pub mod LifeDelivery
pub mod Delivery
pub mod StartsTold
pub mod ToldPaths
pub mod VersionsSpread
pub mod SpreadPathsRun
pub mod Rising
pub mod Counts
pub mod Worked
pub mod WorkedPositions
pub mod WorkedTelling
pub mod WorkedLives
pub mod WorkedSpreading
pub mod Within
