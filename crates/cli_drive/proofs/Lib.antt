mod Buffers
mod CallPorts
mod MessagePrints
mod Moving
mod OneChange
mod Reading
mod TrainRows
mod Views
